use Rattle.meaning_runs.proofs.Waits.{waits_wait}
use Rattle.meaning_runs.proofs.waits_wait.Goals as goal

pub returns : goal.returns
returns c = waits_wait
