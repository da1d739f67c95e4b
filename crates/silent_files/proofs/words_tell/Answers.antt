use Rattle.silent_files.proofs.SilentWords.{words_tell}
use Rattle.silent_files.proofs.words_tell.Goals as goal

pub returns : goal.returns
returns c = words_tell
