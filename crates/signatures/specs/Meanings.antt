-- What the uses of a file mean.
use Rattle.names.specs.Answers.{declared_at}
use Rattle.meaning.specs.FunctionFacts.{Meanings}
use Rattle.signatures.specs.declared.in_file.InFile.{InFile}

abbrev pub meanings_of : InFile → Meanings
meanings_of f = declared_at f.names.now f.file
