use Rattle.meaning_runs.proofs.PackageYes.{yes_of_a_package_is_quiet}
use Rattle.meaning_runs.proofs.yes_of_a_package_is_quiet.Goals as goal

pub returns : goal.returns
returns c = yes_of_a_package_is_quiet
