use Rattle.meaning_runs.proofs.QuietPromise.{yes_is_quiet_in_all}
use Rattle.meaning_runs.proofs.yes_is_quiet_in_all.Goals as goal

pub returns : goal.returns
returns c = yes_is_quiet_in_all
