use Rattle.std.proofs.Common.{◌≡◌, Some, map, take}
use Rattle.board.specs.Kept.{kept_at}
use Rattle.board.proofs.core_board.outcomes_of.Given as goal

abbrev pub invariant-loop-place : goal.invariant-loop-place
invariant-loop-place g l = map (λ one. Some one) l.found.items ≡ map (kept_at l.outcomes) (take l.place-index l.places)
