use Rattle.std.proofs.Common.{◌≡◌, List, ap, sym, ◌∙◌, map, subst}
use Rattle.std.proofs.lemmas.Result.{IfOk-weaker}
use Rattle.calls_flags.specs.Claims.{Claim, claim_view, flags_claimed, AreClaims, Sieves}
use Rattle.called_parameters.specs.Called.{is_called}
use Rattle.facts.specs.FactViews.{facts_by_name}
use Rattle.verifier.proofs.BelievedFlags.{kept, are_claims, are_claimed, same_believed}
use Rattle.verifier.specs.BelievedClaims.{ComesBackOf}
use Rattle.verifier.specs.GivenViews.{claim_in, params_at}
use Rattle.verifier.proofs.claimed.find_claimed.Goals as goal

pub returns : goal.returns
returns c =
    IfOk-weaker c.called_by.result _ _
    (λ called same fs tell have g given.
    let facts = facts_by_name c.args.table.now in
    let all = kept facts fs have g in
    let are_all : map claim_view c.deref-2.result.now ≡ all =
    ap (map claim_view) c.deref-2.ensures.value
    ∙ (c.in_ok-kept.ensures
    ∙ same_believed facts (λ n j. claim_in (params_at c.args.given.now.claims n) j) g.claims given.are_claims
    (map claim_view c.deref.result.now) _
    (ap (map claim_view) c.deref.ensures.value ∙ c.in_ok-claims.ensures fs tell)) in
    let claims = subst (λ (cs : List Claim). AreClaims fs cs) (sym are_all) (are_claims facts fs have g) in
    let left = map claim_view c.deref-3.result.now in
    are_claimed facts fs have g left
    (subst (λ (cs : List Claim). Sieves (ComesBackOf fs) cs left) are_all
    (subst (λ xs. Sieves (ComesBackOf fs) (map claim_view c.deref-2.result.now) (map claim_view xs))
    (sym c.deref-3.ensures.value) (c.in_ok-known.ensures fs tell claims)))
    (is_called called) same)
    c.called_by.ensures
