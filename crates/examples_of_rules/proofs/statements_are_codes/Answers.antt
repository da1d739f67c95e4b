use Rattle.examples_of_rules.proofs.CodeExamples.{statements_are_codes}
use Rattle.examples_of_rules.proofs.statements_are_codes.Goals as goal

pub returns : goal.returns
returns c = statements_are_codes
