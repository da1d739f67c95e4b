use Rattle.std.proofs.Common.{◌≡◌}
use Rattle.std.specs.List.{list_any}
use Rattle.tracked.specs.LocalViews.{seen_view}
use Rattle.meaning.specs.Uses.{is_made, binding_at, below, makes_group}
use Rattle.mentions.specs.MarkViews.{row_view}
use Rattle.uses.proofs.bindings.makes_group.Given as goal

-- the test of the left sides below the index is that of all
abbrev pub invariant-loop-index : goal.invariant-loop-index
invariant-loop-index l =
    list_any (λ k. is_made (binding_at (seen_view l.seen) (row_view l.row) k)) (below l.index)
    ≡ makes_group (seen_view l.seen) (row_view l.row)

abbrev pub decreases-loop-index : goal.decreases-loop-index
decreases-loop-index l = l.index
