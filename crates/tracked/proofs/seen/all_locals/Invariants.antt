use Rattle.std.proofs.Common.{[], map, drop}
use Rattle.meaning.specs.Tracked.{placed, locals_of}
use Rattle.mentions.specs.MarkViews.{body_view, marks_view}
use Rattle.tracked_rows.specs.RowViews.{known_view}
use Rattle.tracked.specs.declared.table.Locals.{Locals}
use Rattle.tracked.specs.LocalViews.{AddsLocals, HasLocals}
use Rattle.tracked.proofs.seen.all_locals.Given as goal

-- what adds the rest completes the work
abbrev pub invariant-loop-mark : goal.invariant-loop-mark
invariant-loop-mark l =
    (end : Locals)
    → AddsLocals l.locals end
    (locals_of (known_view l.known) (placed (map body_view l.bodies.items) (marks_view (drop l.mark-index l.marks))))
    → HasLocals end (locals_of (known_view l.known) (placed [] (marks_view l.marks)))
