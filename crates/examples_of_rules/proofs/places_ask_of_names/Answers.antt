use Rattle.examples_of_rules.proofs.MarkExamples.{places_ask_of_names}
use Rattle.examples_of_rules.proofs.places_ask_of_names.Goals as goal

pub returns : goal.returns
returns c = places_ask_of_names
