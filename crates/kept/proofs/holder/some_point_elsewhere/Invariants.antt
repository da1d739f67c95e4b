use Rattle.std.proofs.Common.{◌≡◌, drop}
use Rattle.std.specs.List.{list_any}
use Rattle.mentions.specs.MarkViews.{marks_view}
use Rattle.tracked.specs.LocalViews.{seen_view}
use Rattle.meaning.specs.Kept.{points_elsewhere}
use Rattle.kept.proofs.holder.some_point_elsewhere.Given as goal

-- what is told of those that are left is told of all
abbrev pub invariant-loop-mark : goal.invariant-loop-mark
invariant-loop-mark l =
    list_any (points_elsewhere (seen_view l.seen) l.object) (marks_view (drop l.mark-index l.marks))
    ≡ list_any (points_elsewhere (seen_view l.seen) l.object) (marks_view l.marks)
