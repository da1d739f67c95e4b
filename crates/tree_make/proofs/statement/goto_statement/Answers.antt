use Rattle.std.proofs.Common.{ap}
use Rattle.tree.proofs.Views.{statement_form-Goto}
use Rattle.tree.specs.Syntax.{statement_node}
use Rattle.tree_make.proofs.statement.goto_statement.Goals as goal

pub returns : goal.returns
returns c = ap (λ form. statement_node form c.args.span) (statement_form-Goto c.args.label)
