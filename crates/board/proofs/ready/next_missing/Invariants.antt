use Rattle.std.proofs.Common.{◌≡◌, ℕ, ◌<◌, ◌≤◌, true}
use Rattle.board.specs.Ready.{is_in_at}
use Rattle.board.proofs.ready.next_missing.Given as goal

abbrev pub invariant-loop-index : goal.invariant-loop-index
invariant-loop-index l =
    (l.from ≤ l.index) × ((k : ℕ) → l.from ≤ k → k < l.index → is_in_at l.phases l.imports k ≡ true)
