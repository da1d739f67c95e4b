use Rattle.std.proofs.Common.{[], drop, map}
use Rattle.tracked.specs.LocalViews.{seen_view}
use Rattle.meaning.specs.Tracked.{placed}
use Rattle.mentions.specs.MarkViews.{body_view, marks_view}
use Rattle.events.proofs.MarksTold.{TellsSoFar}
use Rattle.events.proofs.file.tell_marks.Given as goal

abbrev pub invariant-loop-mark : goal.invariant-loop-mark
invariant-loop-mark l =
    TellsSoFar (seen_view l.seen) (placed (map body_view l.bodies.items) (marks_view (drop l.mark-index l.mark-items)))
    (placed [] (marks_view l.mark-items)) l.told
