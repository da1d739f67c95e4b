use Rattle.meaning_runs.proofs.QuietPromise.{yes_is_quiet_without_go}
use Rattle.meaning_runs.proofs.yes_is_quiet_without_go.Goals as goal

pub returns : goal.returns
returns c = yes_is_quiet_without_go
