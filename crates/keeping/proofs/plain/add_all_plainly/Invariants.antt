use Rattle.std.proofs.Common.{◌≡◌, ◌++◌, [], drop, map}
use Rattle.mentions.specs.MarkViews.{body_view, marks_view}
use Rattle.tracked_rows.specs.RowViews.{known_view}
use Rattle.noted_fields.specs.NotedFields.{note_view}
use Rattle.keeping.specs.PlainFiles.{plain_notes}
use Rattle.keeping.proofs.MarksNoted.{there}
use Rattle.keeping.proofs.plain.add_all_plainly.Given as goal

-- what was added, with what is left, is the whole
abbrev pub invariant-loop-mark : goal.invariant-loop-mark
invariant-loop-mark l =
    map note_view l.notes.items
    ++ there (plain_notes (known_view l.known)) (map body_view l.bodies.items) (marks_view (drop l.mark-index l.marks))
    ≡ map note_view l.initial.notes.items ++ there (plain_notes (known_view l.known)) [] (marks_view l.marks)
