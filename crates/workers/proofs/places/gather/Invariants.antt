use Rattle.std.proofs.Common.{◌≡◌}
use Rattle.workers.specs.Outcomes.{placed_all}
use Rattle.workers.proofs.places.gather.Given as goal

-- what is left is put where all of it is put
abbrev pub invariant-loop-share : goal.invariant-loop-share
invariant-loop-share g l =
    placed_all l.share-iterator.rest.items l.places.items ≡ placed_all l.fn.shares.items l.initial.places.items
