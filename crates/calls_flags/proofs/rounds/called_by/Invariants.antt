use Rattle.std.proofs.Common.{◌≡◌, ℕ, List, ◌||◌, map, drop}
use Rattle.calls_flags.specs.Claims.{claim_view, flags_claimed}
use Rattle.called_parameters.specs.Called.{is_called}
use Rattle.calls_flags.proofs.rounds.called_by.Given as goal

-- what was added, or is claimed by what is left, is what all claim
abbrev pub invariant-loop-claim : goal.invariant-loop-claim
invariant-loop-claim l =
    (name : List ℕ) (k : ℕ)
    → (is_called l.called name k || flags_claimed (map claim_view (drop l.claim-index l.claims)) name k)
    ≡ flags_claimed (map claim_view l.claims) name k
