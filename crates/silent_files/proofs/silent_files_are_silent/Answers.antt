use Rattle.silent_files.proofs.SilentFiles.{silent_so}
use Rattle.silent_files.proofs.silent_files_are_silent.Goals as goal

pub returns : goal.returns
returns c = silent_so
