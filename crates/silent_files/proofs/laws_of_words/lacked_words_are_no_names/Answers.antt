use Rattle.silent_files.proofs.NamedWords.{lacked_words_are_no_names}
use Rattle.silent_files.proofs.laws_of_words.lacked_words_are_no_names.Goals as goal

pub returns : goal.returns
returns c = lacked_words_are_no_names
