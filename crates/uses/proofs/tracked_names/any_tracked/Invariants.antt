use Rattle.std.proofs.Common.{◌≡◌, drop}
use Rattle.std.specs.List.{list_any}
use Rattle.tracked.specs.LocalViews.{seen_view}
use Rattle.meaning.specs.Uses.{names_tracked}
use Rattle.mentions.specs.MarkViews.{marks_view}
use Rattle.uses.proofs.tracked_names.any_tracked.Given as goal

-- the test of the marks that are left is that of all
abbrev pub invariant-loop-mark : goal.invariant-loop-mark
invariant-loop-mark l =
    list_any (names_tracked (seen_view l.seen)) (marks_view (drop l.mark-index l.marks))
    ≡ list_any (names_tracked (seen_view l.seen)) (marks_view l.marks)
