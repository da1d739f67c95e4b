use Rattle.std.proofs.Common.{◌∙◌, ◌++◌, ◌∷◌, [], ap, map, drop, length, sym, subst, arith}
use Rattle.std.proofs.lemmas.Bool.{true≢false}
use Rattle.std.proofs.lemmas.List.{drop_all}
use Rattle.std.proofs.lemmas.Option.{get_or_from_slice_get}
use Rattle.calls_flags.proofs.KeptClaims.{longer, next_kept, next_dropped, all_sieved}
use Rattle.calls_flags.specs.Claims.{claim_view}
use Rattle.package_pieces.specs.Marks.{IsMark}
use Rattle.path_faults.proofs.Places.{element_at}
use Rattle.package_pieces.proofs.Marked.{mark_at}
use Rattle.package_pieces.proofs.claims.marked.Goals as goal
use Rattle.package_pieces.proofs.claims.marked.Goals.{then-is_marked+in_ok-push, else-is_marked}

pub loop-place-preserved : goal.loop-place-preserved
loop-place-preserved c =
    let fewer = c.loop-place.invariant.0 in
    let claims = c.args.claims.now in
    let i = c.loop-place.place in
    let within = c.loop-place-test.true in
    let there = element_at claims i within in
    let item = there.0 in
    let is = sym (get_or_from_slice_get claims i item item there.2) in
    let so_far = c.loop-place.kept.items in
    elim c.if-is_marked.branch [
      | then-is_marked+in_ok-push w ↦ (
        let one = ap (λ v. length v.items) w.kept-is ∙ longer so_far _ _ w.in_ok-push.ensures.items in
            omega (arith, fewer, one),
        λ fs calls are marks.
            next_kept fs calls claims i within item is are c.is_marked.result
            (subst (IsMark fs calls item) (sym c.is_marked.ensures) (mark_at fs calls claims c.args.marks.now marks i item within is))
            w.if-is_marked.true so_far c.if-is_marked.kept.items (ap (λ v. v.items) w.kept-is
            ∙ (w.in_ok-push.ensures.items ∙ ap (λ x. so_far ++ x ∷ []) (get_or_from_slice_get claims i item _ there.2)))
            (c.loop-place.invariant.1 fs calls are marks),
      )
      | else-is_marked w ↦ (
        let same = ap (λ v. length v.items) w.kept-is in omega (arith, fewer, same),
        λ fs calls are marks.
            next_dropped fs calls claims i within item is are c.is_marked.result
            (subst (IsMark fs calls item) (sym c.is_marked.ensures) (mark_at fs calls claims c.args.marks.now marks i item within is))
            (λ on. true≢false (sym on ∙ w.if-is_marked.false)) so_far c.if-is_marked.kept.items (ap (λ v. v.items) w.kept-is)
            (c.loop-place.invariant.1 fs calls are marks),
      )
    ]

pub returns-clause-sieves : goal.returns-clause-sieves
returns-clause-sieves c = λ fs calls are marks.
    all_sieved _ (map claim_view (drop c.loop-place.place c.args.claims.now)) _ _
    (ap (map claim_view) (drop_all c.loop-place.place c.args.claims.now c.loop-place-test.false))
    (c.loop-place.invariant.1 fs calls are marks)
