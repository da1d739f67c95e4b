use Rattle.std.proofs.Common.{◌∙◌, ap, map, drop, sym}
use Rattle.std.proofs.lemmas.Bool.{true≢false}
use Rattle.std.proofs.lemmas.List.{drop_all, get_or_default}
use Rattle.calls_flags.proofs.KeptClaims.{all_sieved}
use Rattle.calls_flags.specs.Claims.{claim_view}
use Rattle.verifier.proofs.ComingBack.{next_back, next_gone}
use Rattle.verifier.proofs.claimed.that_come_back.Goals as goal
use Rattle.verifier.proofs.claimed.that_come_back.Goals.{then-branch+in_ok-push, else-branch}

pub loop-claim-preserved : goal.loop-claim-preserved
loop-claim-preserved c =
    let claims = c.args.claims.now in
    let i = c.loop-claim.claim-index in
    let so_far = c.loop-claim.kept.items in
    elim c.if-branch.branch [
      | then-branch+in_ok-push w ↦ λ fs tell are.
          next_back fs claims i c.loop-claim-test.true _ (get_or_default claims i _ _ c.loop-claim-test.true) are
          c.in_ok-claim_comes_back.field-0 (c.in_ok-claim_comes_back.ensures fs tell) w.if-branch.true so_far
          c.if-branch.kept.items (ap (λ v. v.items) w.kept-is ∙ w.in_ok-push.ensures.items)
          (c.loop-claim.invariant fs tell are)
      | else-branch w ↦ λ fs tell are.
          next_gone fs claims i c.loop-claim-test.true _ (get_or_default claims i _ _ c.loop-claim-test.true) are
          c.in_ok-claim_comes_back.field-0 (c.in_ok-claim_comes_back.ensures fs tell)
          (λ is. true≢false (sym is ∙ w.if-branch.false)) so_far c.if-branch.kept.items (ap (λ v. v.items) w.kept-is)
          (c.loop-claim.invariant fs tell are)
    ]

pub returns : goal.returns
returns c = λ fs tell are.
    all_sieved _ (map claim_view (drop c.loop-claim.claim-index c.args.claims.now)) _ _
    (ap (map claim_view) (drop_all c.loop-claim.claim-index c.args.claims.now c.loop-claim-test.false))
    (c.loop-claim.invariant fs tell are)
