use Rattle.std.proofs.Common.{◌≡◌, ◌++◌, drop, map}
use Rattle.std.specs.Prelude.{flat_map}
use Rattle.noted_fields.specs.NotedFields.{note_view}
use Rattle.keeping.specs.Keeping.{each_known}
use Rattle.keeping.specs.ToldFiles.{told_notes}
use Rattle.keeping.proofs.files.notes_of.Given as goal

-- what was said, with what the files say that are left, is the whole
abbrev pub invariant-loop-file : goal.invariant-loop-file
invariant-loop-file l =
    map note_view l.notes.items ++ flat_map (told_notes (each_known l.known)) (drop l.file-index l.files)
    ≡ flat_map (told_notes (each_known l.known)) l.files
