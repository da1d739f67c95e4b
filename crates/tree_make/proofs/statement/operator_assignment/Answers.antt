use Rattle.std.proofs.Common.{ap}
use Rattle.tree.proofs.Views.{statement_form-AssignOp}
use Rattle.tree.specs.Syntax.{statement_node}
use Rattle.tree_make.proofs.statement.operator_assignment.Goals as goal

pub returns : goal.returns
returns c = ap (λ form. statement_node form c.args.span) (statement_form-AssignOp c.args.operator c.args.left c.args.right)
