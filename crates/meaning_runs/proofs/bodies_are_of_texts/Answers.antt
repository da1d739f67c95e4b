use Rattle.meaning_runs.proofs.RunLists.{bodies_are_of_texts}
use Rattle.meaning_runs.proofs.bodies_are_of_texts.Goals as goal

pub returns : goal.returns
returns c = bodies_are_of_texts
