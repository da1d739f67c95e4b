use Rattle.silent_files.proofs.NamedWords.{names_are_words}
use Rattle.silent_files.proofs.laws_of_words.names_are_words.Goals as goal

pub returns : goal.returns
returns c = names_are_words
