use Rattle.std.proofs.Common.{◌≡◌, ◌<◌, ℕ, true, get_or}
use Rattle.bodies.specs.Masks.{is_set}
use Rattle.bodies.proofs.state.State.is_within.Given as goal

-- the words so far have no more than those of the other state
abbrev pub invariant-loop-place : goal.invariant-loop-place
invariant-loop-place l =
    (i bit : ℕ) → i < l.place → is_set (get_or l.self.words i 0) bit ≡ true → is_set (get_or l.other.words i 0) bit ≡ true
