use Rattle.std.proofs.Common.{◌≡◌, ℕ, ◌<◌, ◌≤◌, false}
use Rattle.board.specs.Ready.{is_untaken_at}
use Rattle.board.proofs.ready.first_untaken.Given as goal

abbrev pub invariant-loop-index : goal.invariant-loop-index
invariant-loop-index l =
    (l.from ≤ l.index) × ((k : ℕ) → l.from ≤ k → k < l.index → is_untaken_at l.phases l.listed k ≡ false)
