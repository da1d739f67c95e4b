use Rattle.std.proofs.Common.{[], drop, map}
use Rattle.mentions.specs.MarkViews.{body_view, marks_view}
use Rattle.meaning.specs.Tracked.{placed}
use Rattle.tracked.specs.LocalViews.{seen_view}
use Rattle.kept.proofs.Gatherings.{GathersSoFar}
use Rattle.kept.proofs.gathered.gather.Given as goal

abbrev pub invariant-loop-mark : goal.invariant-loop-mark
invariant-loop-mark l =
    GathersSoFar (seen_view l.seen) (placed (map body_view l.bodies.items) (marks_view (drop l.mark-index l.mark-items)))
    (placed [] (marks_view l.mark-items)) l.gathered
