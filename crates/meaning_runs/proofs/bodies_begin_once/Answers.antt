use Rattle.meaning_runs.proofs.BodyOffsets.{bodies_begin_once}
use Rattle.meaning_runs.proofs.bodies_begin_once.Goals as goal

pub returns : goal.returns
returns c = bodies_begin_once
