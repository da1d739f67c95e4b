use Rattle.std.proofs.Common.{◌≡◌, ℕ, ◌||◌, drop, is_some}
use Rattle.std.specs.List.{list_any}
use Rattle.meaning.specs.Objects.{binds_again}
use Rattle.mentions.specs.MarkViews.{marks_view}
use Rattle.tracked_rows.specs.RowViews.{known_view}
use Rattle.tracked.specs.LocalViews.{bound_in}
use Rattle.tracked.proofs.unbound.bound_again.Given as goal

-- what was noted, with what the marks that are left tell, is what all tell
abbrev pub invariant-loop-mark : goal.invariant-loop-mark
invariant-loop-mark l =
    (n : ℕ)
    → (is_some (bound_in l.bound n) || list_any (binds_again (known_view l.known) n) (marks_view (drop l.mark-index l.marks)))
    ≡ list_any (binds_again (known_view l.known) n) (marks_view l.marks)
