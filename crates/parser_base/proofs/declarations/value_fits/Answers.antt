use Rattle.parser_base.proofs.Fits.{typed-constant, untyped-variable}
use Rattle.parser_base.proofs.declarations.value_fits.Goals as goal

pub returns-in-Some : goal.returns-in-Some
returns-in-Some c = typed-constant _ _ c.in-Some.field-0 _ _ c.in-Const.is c.in-Some.is c.is_empty.ensures

pub returns-in-None-kind : goal.returns-in-None-kind
returns-in-None-kind c = untyped-variable _ _ _ _ c.in-Var.is c.in-None-kind.is c.is_empty-in-None-kind.ensures
