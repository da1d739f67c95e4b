use Rattle.std.proofs.Common.{◌≡◌, ℕ, drop}
use Rattle.mentions.specs.MarkViews.{marks_view}
use Rattle.meaning.specs.Uses.{first_of_some}
use Rattle.tracked.specs.LocalViews.{seen_view, obtaining_in}
use Rattle.tracked.proofs.FirstObtainings.{first_in}
use Rattle.tracked.proofs.obtainings.first_obtainings.Given as goal

-- what was noted, with what the marks that are left tell, is what all tell
abbrev pub invariant-loop-mark : goal.invariant-loop-mark
invariant-loop-mark l =
    (n : ℕ)
    → first_of_some (obtaining_in l.obtainings n) (first_in (seen_view l.seen) n (marks_view (drop l.mark-index l.mark-items)))
    ≡ first_in (seen_view l.seen) n (marks_view l.mark-items)
