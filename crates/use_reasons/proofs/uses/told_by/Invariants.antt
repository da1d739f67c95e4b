use Rattle.std.proofs.Common.{[], map, drop}
use Rattle.meaning.specs.Tracked.{placed}
use Rattle.mentions.specs.MarkViews.{body_view, marks_view}
use Rattle.tracked_rows.specs.RowViews.{known_view}
use Rattle.use_reasons.proofs.ToldSoFar.{ToldSoFar}
use Rattle.use_reasons.proofs.uses.told_by.Given as goal

-- what was added, with what the marks that are left tell, is what all tell
abbrev pub invariant-loop-mark : goal.invariant-loop-mark
invariant-loop-mark l =
    ToldSoFar (known_view l.known) (placed (map body_view l.bodies.items) (marks_view (drop l.mark-index l.marks)))
    (placed [] (marks_view l.marks)) l.told
