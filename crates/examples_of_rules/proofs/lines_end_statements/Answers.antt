use Rattle.examples_of_rules.proofs.TokenExamples.{lines_end_statements}
use Rattle.examples_of_rules.proofs.lines_end_statements.Goals as goal

pub returns : goal.returns
returns c = lines_end_statements
