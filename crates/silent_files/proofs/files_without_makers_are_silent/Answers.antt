use Rattle.silent_files.proofs.SilentFiles.{without_makers}
use Rattle.silent_files.proofs.files_without_makers_are_silent.Goals as goal

pub returns : goal.returns
returns c = without_makers
