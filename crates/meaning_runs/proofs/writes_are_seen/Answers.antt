use Rattle.meaning_runs.proofs.Writes.{writes_are_seen}
use Rattle.meaning_runs.proofs.writes_are_seen.Goals as goal

pub returns : goal.returns
returns c = writes_are_seen
