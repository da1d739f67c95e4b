use Rattle.silent_files.proofs.WalkedFiles.{walks_are_enough}
use Rattle.silent_files.proofs.walked_files_are_enough.Goals as goal

pub returns : goal.returns
returns c = walks_are_enough
