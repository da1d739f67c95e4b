use Rattle.std.proofs.Common.{ap}
use Rattle.tree.proofs.Views.{statement_form-For}
use Rattle.tree.specs.Syntax.{statement_node}
use Rattle.tree_make.proofs.control.for_statement.Goals as goal

pub returns : goal.returns
returns c = ap (λ form. statement_node form c.args.span) (statement_form-For c.args.init c.args.condition c.args.post c.args.has_semicolons c.args.body)
