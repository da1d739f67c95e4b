use Rattle.std.proofs.Common.{◌≡◌, ◌++◌, drop, map}
use Rattle.noted_fields.specs.NotedFields.{note_view}
use Rattle.keeping.proofs.files.add_again.Given as goal

-- what was added, with what is left, is the whole
abbrev pub invariant-loop-note : goal.invariant-loop-note
invariant-loop-note l =
    map note_view l.notes.items ++ map note_view (drop l.note-index l.again)
    ≡ map note_view l.initial.notes.items ++ map note_view l.again
