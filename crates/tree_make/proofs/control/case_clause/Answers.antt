use Rattle.tree.proofs.Views.{case_clause_and-roll}
use Rattle.tree_make.proofs.control.case_clause.Goals as goal

pub returns : goal.returns
returns c = case_clause_and-roll record { expressions = c.args.expressions; statements = c.args.statements; span = c.args.span }
