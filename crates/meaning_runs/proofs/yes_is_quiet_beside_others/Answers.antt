use Rattle.meaning_runs.proofs.PackageYes.{yes_is_quiet_beside_others}
use Rattle.meaning_runs.proofs.yes_is_quiet_beside_others.Goals as goal

pub returns : goal.returns
returns c = yes_is_quiet_beside_others
