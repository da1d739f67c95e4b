use Rattle.std.proofs.Common.{◌≡◌, ◌++◌, map, drop}
use Rattle.calls_flags.specs.Claims.{claim_view}
use Rattle.facts.specs.FactViews.{facts_by_name}
use Rattle.verifier.specs.BelievedClaims.{believes}
use Rattle.verifier.specs.GivenViews.{claim_in, params_at}
use Rattle.verifier.proofs.claimed.believed.Given as goal

-- the believed ones so far, with those of the claims that are left, are all
abbrev pub invariant-loop-claim : goal.invariant-loop-claim
invariant-loop-claim l =
    map claim_view l.kept.items
    ++ believes (facts_by_name l.table) (λ name k. claim_in (params_at l.given name) k)
    (map claim_view (drop l.claim-index l.claims))
    ≡ believes (facts_by_name l.table) (λ name k. claim_in (params_at l.given name) k) (map claim_view l.claims)
