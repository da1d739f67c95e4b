use Rattle.meaning_runs.proofs.QuietPromise.{yes_is_quiet}
use Rattle.meaning_runs.proofs.yes_is_quiet.Goals as goal

pub returns : goal.returns
returns c = yes_is_quiet
