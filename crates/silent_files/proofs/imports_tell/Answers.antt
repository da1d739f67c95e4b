use Rattle.silent_files.proofs.SilentPackages.{imports_tell}
use Rattle.silent_files.proofs.imports_tell.Goals as goal

pub returns : goal.returns
returns c = imports_tell
