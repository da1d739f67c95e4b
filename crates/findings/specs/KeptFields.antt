-- What was told of the fields in which a file keeps cancel functions.
use Rattle.std.specs.Prelude.{ℕ, List}
use Rattle.calls_flags.specs.declared.told_file.ToldFile.{ToldFile}
use Rattle.report.specs.Entries.{texts_of}

abbrev pub kept_in : ToldFile → List (List ℕ)
kept_in file = texts_of file.told.keeping.items
