use Rattle.std.proofs.Common.{ap}
use Rattle.tree.proofs.Views.{statement_form-Fallthrough}
use Rattle.tree.specs.Syntax.{statement_node}
use Rattle.tree_make.proofs.statement.fallthrough_statement.Goals as goal

pub returns : goal.returns
returns c = ap (λ form. statement_node form c.args.span) statement_form-Fallthrough
