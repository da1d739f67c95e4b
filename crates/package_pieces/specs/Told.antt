-- What is told of one file of a package.
use Rattle.std.specs.Prelude.{ℕ, ◌≡◌, Some, slice_get}
use Rattle.calls_flags.specs.ToldFiles.{known_for, TellsSeen}
use Rattle.calls_flags.specs.declared.told_file.Telling.{Telling}
use Rattle.calls_flags.specs.declared.told_file.ToldFile.{ToldFile}
use Rattle.silent_files.specs.WalkedFiles.{is_walked, seen_if}
use Rattle.tree.specs.View.{file_syntax}
use Rattle.tree.specs.declared.file.File.{File}

-- it is told of the file of that number, if there is one
abbrev pub IsToldAt : Telling → ℕ → ToldFile → Type 0
IsToldAt telling number told =
    (file : File) → slice_get telling.files.now number ≡ Some file
    → TellsSeen (seen_if (is_walked telling.walked.now number) (known_for telling number) (file_syntax file)) told
