use Rattle.silent_files.proofs.SilentPackages.{skipped_so}
use Rattle.silent_files.proofs.skipped_files_are_silent.Goals as goal

pub returns : goal.returns
returns c = skipped_so
