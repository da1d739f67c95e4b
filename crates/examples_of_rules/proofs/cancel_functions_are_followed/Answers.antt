use Rattle.examples_of_rules.proofs.CancelExamples.{cancel_functions_are_followed}
use Rattle.examples_of_rules.proofs.cancel_functions_are_followed.Goals as goal

pub returns : goal.returns
returns c = cancel_functions_are_followed
