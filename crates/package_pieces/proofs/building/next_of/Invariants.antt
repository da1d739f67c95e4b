use Rattle.std.proofs.Common.{◌≡◌, ◌++◌, length}
use Rattle.std.specs.Vec.Iter.{into_iter_items}
use Rattle.package_pieces.proofs.building.next_of.Given as goal

-- those that were taken, as many as there were turns, and those that are left
abbrev pub invariant-loop-turn : goal.invariant-loop-turn
invariant-loop-turn g l =
    (into_iter_items l.initial.left ≡ l.next.items ++ into_iter_items l.left) × (length l.next.items ≡ l._turn)
