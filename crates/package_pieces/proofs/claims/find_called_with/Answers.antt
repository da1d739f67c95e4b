use Rattle.std.proofs.Common.{◌≡◌, ◌∙◌, length, map, sym, ap, subst, arith}
use Rattle.std.proofs.lemmas.List.{length-map}
use Rattle.facts.specs.FactViews.{facts_by_name}
use Rattle.meaning_packages.specs.CallsFlags.{AreMost, calls_by}
use Rattle.calls_flags.specs.Claims.{claim_view, flags_claimed, AreClaims, KeepsClaim, Sieves}
use Rattle.called_parameters.specs.Called.{flags_by_path}
use Rattle.calls_flags.proofs.GreatestFlags.{at_first, next_round, last_round}
use Rattle.package_pieces.proofs.claims.find_called_with.Goals as goal

pub loop-claims-init : goal.loop-claims-init
loop-claims-init g c = λ fs tell have.
    at_first fs (flags_by_path c.args.imported.now) (facts_by_name c.args.table.now) have
    (map claim_view c.in_ok-claims.claims.items) (c.in_ok-claims.ensures fs tell)

pub returns-then-len : goal.returns-then-len
returns-then-len g c = λ fs tell have.
    let imported = flags_by_path c.args.imported.now in
    let claims = map claim_view c.loop-claims.claims.items in
    let kept = map claim_view c.in_ok-kept.kept.items in
    let enough = c.loop-claims.invariant fs tell have in
    let sieves = subst (λ cs. AreClaims fs (map claim_view cs)
    → Sieves (KeepsClaim fs (calls_by (flags_claimed (map claim_view cs)) imported)) (map claim_view cs) kept)
    c.deref.ensures.value (c.in_ok-kept.ensures.sieves fs tell) enough.are_claims in
    let left : c.len.result ≡ c.in_ok-kept.kept.len = c.len.ensures in
    let all : c.len-in-loop-claims.result ≡ c.loop-claims.claims.len = c.len-in-loop-claims.ensures in
    let size : length kept ≡ length claims = omega (
      arith,
      length-map c.in_ok-kept.kept.items claim_view,
      length-map c.loop-claims.claims.items claim_view,
      left,
      all,
      c.if-len.true,
      c.in_ok-kept.kept.ok.0,
      c.in_ok-kept.kept.ok.1,
      c.loop-claims.claims.ok.0,
      c.loop-claims.claims.ok.1,
    ) in
    let same : claims ≡ map claim_view c.deref-then-len.result.now = ap (map claim_view) (sym c.deref-then-len.ensures.value) in
    subst (AreMost fs imported)
    (λ i name k. ((ap (λ cs. flags_claimed cs name k) same) ∙ sym (c.in_ok-called_by.ensures name k)) i)
    (last_round fs imported claims kept enough sieves size)

pub loop-claims-smaller : goal.loop-claims-smaller
loop-claims-smaller g c =
    let fewer = c.in_ok-kept.ensures.fewer in
    let there = ap length c.deref.ensures.value in
    let left : c.len.result ≡ c.in_ok-kept.kept.len = c.len.ensures in
    let all : c.len-in-loop-claims.result ≡ c.loop-claims.claims.len = c.len-in-loop-claims.ensures in
    omega (
      arith,
      fewer,
      there,
      left,
      all,
      c.if-len.false,
      c.in_ok-kept.kept.ok.0,
      c.in_ok-kept.kept.ok.1,
      c.loop-claims.claims.ok.0,
      c.loop-claims.claims.ok.1,
    )

pub loop-claims-preserved : goal.loop-claims-preserved
loop-claims-preserved g c = λ fs tell have.
    let imported = flags_by_path c.args.imported.now in
    let kept = map claim_view c.in_ok-kept.kept.items in
    let enough = c.loop-claims.invariant fs tell have in
    next_round fs imported (map claim_view c.loop-claims.claims.items) kept enough
    (subst (λ cs. AreClaims fs (map claim_view cs)
    → Sieves (KeepsClaim fs (calls_by (flags_claimed (map claim_view cs)) imported)) (map claim_view cs) kept)
    c.deref.ensures.value (c.in_ok-kept.ensures.sieves fs tell) enough.are_claims)
