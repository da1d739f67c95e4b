use Rattle.std.proofs.Common.{◌∙◌, ap, map, drop, length, sym, arith}
use Rattle.std.proofs.lemmas.Bool.{true≢false}
use Rattle.std.proofs.lemmas.List.{drop_all, get_or_default}
use Rattle.calls_flags.proofs.KeptClaims.{longer, next_kept, next_dropped, all_sieved}
use Rattle.calls_flags.specs.Claims.{claim_view}
use Rattle.calls_flags.specs.KnownCalls.{known_calls}
use Rattle.calls_flags.proofs.rounds.kept_by_paths.Goals as goal
use Rattle.calls_flags.proofs.rounds.kept_by_paths.Goals.{then-branch+in_ok-push, else-branch}

pub loop-claim-preserved : goal.loop-claim-preserved
loop-claim-preserved c =
    let fewer = c.loop-claim.invariant.0 in
    let claims = c.args.claims.now in
    let i = c.loop-claim.claim-index in
    let so_far = c.loop-claim.kept.items in
    elim c.if-branch.branch [
      | then-branch+in_ok-push w ↦ (
        let one = ap (λ v. length v.items) w.kept-is ∙ longer so_far _ _ w.in_ok-push.ensures.items in
            omega (arith, fewer, one),
        λ fs tell are.
            next_kept fs (known_calls c.args.calls) claims i c.loop-claim-test.true _
            (get_or_default claims i _ _ c.loop-claim-test.true) are c.in_ok-keeps_claim.field-0
            (c.in_ok-keeps_claim.ensures fs tell) w.if-branch.true so_far c.if-branch.kept.items
            (ap (λ v. v.items) w.kept-is ∙ w.in_ok-push.ensures.items) (c.loop-claim.invariant.1 fs tell are),
      )
      | else-branch w ↦ (
        let same = ap (λ v. length v.items) w.kept-is in omega (arith, fewer, same),
        λ fs tell are.
            next_dropped fs (known_calls c.args.calls) claims i c.loop-claim-test.true _
            (get_or_default claims i _ _ c.loop-claim-test.true) are c.in_ok-keeps_claim.field-0
            (c.in_ok-keeps_claim.ensures fs tell) (λ is. true≢false (sym is ∙ w.if-branch.false)) so_far
            c.if-branch.kept.items (ap (λ v. v.items) w.kept-is) (c.loop-claim.invariant.1 fs tell are),
      )
    ]

pub returns-clause-sieves : goal.returns-clause-sieves
returns-clause-sieves c = λ fs tell are.
    all_sieved _ (map claim_view (drop c.loop-claim.claim-index c.args.claims.now)) _ _
    (ap (map claim_view) (drop_all c.loop-claim.claim-index c.args.claims.now c.loop-claim-test.false))
    (c.loop-claim.invariant.1 fs tell are)
