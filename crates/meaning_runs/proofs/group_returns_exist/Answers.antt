use Rattle.meaning_runs.proofs.GroupRuns.{group_returns_exist}
use Rattle.meaning_runs.proofs.group_returns_exist.Goals as goal

pub returns : goal.returns
returns c = group_returns_exist
