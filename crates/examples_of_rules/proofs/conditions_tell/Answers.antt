use Rattle.examples_of_rules.proofs.ConditionExamples.{conditions_tell}
use Rattle.examples_of_rules.proofs.conditions_tell.Goals as goal

pub returns : goal.returns
returns c = conditions_tell
