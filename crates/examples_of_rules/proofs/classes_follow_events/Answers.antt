use Rattle.examples_of_rules.proofs.ClassExamples.{classes_follow_events}
use Rattle.examples_of_rules.proofs.classes_follow_events.Goals as goal

pub returns : goal.returns
returns c = classes_follow_events
