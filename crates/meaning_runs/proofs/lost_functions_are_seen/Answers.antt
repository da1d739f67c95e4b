use Rattle.meaning_runs.proofs.LoudRuns.{lost_functions_are_seen}
use Rattle.meaning_runs.proofs.lost_functions_are_seen.Goals as goal

pub returns : goal.returns
returns c = lost_functions_are_seen
