use Rattle.tree.proofs.Views.{communication_clause_and-roll}
use Rattle.tree_make.proofs.control.communication_clause.Goals as goal

pub returns : goal.returns
returns c = communication_clause_and-roll record { communication = c.args.communication; statements = c.args.statements; span = c.args.span }
