use Rattle.meaning_runs.proofs.BodyOffsets.{bodies_are_apart}
use Rattle.meaning_runs.proofs.bodies_are_apart.Goals as goal

pub returns : goal.returns
returns c = bodies_are_apart
