use Rattle.std.proofs.Common.{◌≡◌, ◌++◌, [], map, drop}
use Rattle.meaning.specs.Tracked.{placed}
use Rattle.mentions.specs.MarkViews.{body_view, marks_view}
use Rattle.tracked_rows.specs.RowViews.{known_view}
use Rattle.tracked.specs.LocalViews.{object_row_view, unbound_in}
use Rattle.objects.proofs.RowsInOrder.{rows_placed}
use Rattle.objects.proofs.rows.object_rows.Given as goal

-- what was added, with what the marks that are left add, is the whole
abbrev pub invariant-loop-mark : goal.invariant-loop-mark
invariant-loop-mark l =
    map object_row_view l.rows.items
    ++ rows_placed (known_view l.known) (placed [] (marks_view l.marks)) (unbound_in l.objects)
    (placed (map body_view l.bodies.items) (marks_view (drop l.mark-index l.marks)))
    ≡ rows_placed (known_view l.known) (placed [] (marks_view l.marks)) (unbound_in l.objects) (placed [] (marks_view l.marks))
