use Rattle.silent_files.proofs.SilentPackages.{nothing_changes}
use Rattle.silent_files.proofs.silent_files_change_nothing.Goals as goal

pub returns : goal.returns
returns c = nothing_changes
