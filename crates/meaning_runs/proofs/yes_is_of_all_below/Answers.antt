use Rattle.meaning_runs.proofs.PackageYes.{yes_is_of_all_below}
use Rattle.meaning_runs.proofs.yes_is_of_all_below.Goals as goal

pub returns : goal.returns
returns c = yes_is_of_all_below
