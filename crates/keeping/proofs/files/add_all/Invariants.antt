use Rattle.std.proofs.Common.{◌≡◌, ◌++◌, [], drop, map}
use Rattle.mentions.specs.MarkViews.{body_view, marks_view}
use Rattle.tracked.specs.LocalViews.{seen_view}
use Rattle.keeping.specs.Notes.{notes_there}
use Rattle.noted_fields.specs.NotedFields.{note_view}
use Rattle.keeping.proofs.MarksNoted.{there}
use Rattle.keeping.proofs.files.add_all.Given as goal

-- what was added, with what is left, is the whole
abbrev pub invariant-loop-mark : goal.invariant-loop-mark
invariant-loop-mark l =
    map note_view l.notes.items
    ++ there (notes_there (seen_view l.seen)) (map body_view l.bodies.items) (marks_view (drop l.mark-index l.mark-items))
    ≡ map note_view l.initial.notes.items ++ there (notes_there (seen_view l.seen)) [] (marks_view l.mark-items)
