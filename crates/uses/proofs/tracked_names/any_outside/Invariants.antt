use Rattle.std.proofs.Common.{◌≡◌, drop, map, []}
use Rattle.std.specs.List.{list_any}
use Rattle.tracked.specs.LocalViews.{seen_view}
use Rattle.meaning.specs.Tracked.{placed}
use Rattle.meaning.specs.Uses.{names_tracked_outside}
use Rattle.mentions.specs.MarkViews.{body_view, marks_view}
use Rattle.uses.proofs.tracked_names.any_outside.Given as goal

-- the test of the marks that are left, in the bodies around them, is that of all
abbrev pub invariant-loop-mark : goal.invariant-loop-mark
invariant-loop-mark l =
    list_any (names_tracked_outside (seen_view l.seen))
    (placed (map body_view l.bodies.items) (marks_view (drop l.mark-index l.marks)))
    ≡ list_any (names_tracked_outside (seen_view l.seen)) (placed [] (marks_view l.marks))
