use Rattle.std.proofs.Common.{◌≡◌, drop}
use Rattle.verifier.specs.GivenViews.{claim_at}
use Rattle.verifier.proofs.given.claim_at.Given as goal

-- what those that are left claim is what all claim
abbrev pub invariant-loop-parameter : goal.invariant-loop-parameter
invariant-loop-parameter l =
    claim_at (drop l.parameter-index l.parameters) l.position ≡ claim_at l.parameters l.position
