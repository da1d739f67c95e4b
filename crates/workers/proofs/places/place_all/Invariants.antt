use Rattle.std.proofs.Common.{◌≡◌}
use Rattle.workers.specs.Outcomes.{placed}
use Rattle.workers.proofs.places.place_all.Given as goal

-- what is left is put where all of it is put
abbrev pub invariant-loop-number : goal.invariant-loop-number
invariant-loop-number g l = placed l.number-iterator.rest.items l.places ≡ placed l.fn.share.items l.initial.places
