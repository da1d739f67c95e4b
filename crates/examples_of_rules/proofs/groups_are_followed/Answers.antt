use Rattle.examples_of_rules.proofs.GroupExamples.{groups_are_followed}
use Rattle.examples_of_rules.proofs.groups_are_followed.Goals as goal

pub returns : goal.returns
returns c = groups_are_followed
