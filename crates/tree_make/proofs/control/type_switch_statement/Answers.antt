use Rattle.std.proofs.Common.{refl}
use Rattle.tree.proofs.Views.{statement_form-TypeSwitch}
use Rattle.tree_make.proofs.control.type_switch_statement.Goals as goal

pub returns : goal.returns
returns c = rw statement_form-TypeSwitch refl
