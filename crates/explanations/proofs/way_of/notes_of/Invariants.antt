use Rattle.std.proofs.Common.{◌≡◌, ◌++◌, drop, map}
use Rattle.explanations.specs.Found.{shown, way_note}
use Rattle.way_notes.specs.NoteViews.{note_view}
use Rattle.explanations.proofs.way_of.notes_of.Given as goal

-- what was made, with what is left, is the whole
abbrev pub invariant-loop-note : goal.invariant-loop-note
invariant-loop-note l =
    map shown l.notes.items ++ map (way_note l.sources l.file) (map note_view (drop l.note-index l.told))
    ≡ map (way_note l.sources l.file) (map note_view l.told)
