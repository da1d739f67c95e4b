use Rattle.std.proofs.Common.{◌+◌, length, refl, map, drop, arith}
use Rattle.std.proofs.lemmas.List.{drop_all}
use Rattle.std.proofs.lemmas.Option.{slice_get_read}
use Rattle.std.proofs.lemmas.Slice.Zip.{AllZip-long}
use Rattle.bodies.specs.Bodies.{TellsBody}
use Rattle.calls_flags.proofs.ClaimsAdded.{claims_next, claims_all}
use Rattle.credits.proofs.PairedLists.{pair_at, next_is}
use Rattle.calls_flags.specs.Claims.{claim_view, body_claims}
use Rattle.facts.specs.FactViews.{facts_by_name}
use Rattle.meaning.specs.BodyEvents.{bodies_of}
use Rattle.calls_flags.proofs.claims.add_bodies.Goals as goal

pub loop-place-preserved : goal.loop-place-preserved
loop-place-preserved c = λ file seen tell.
    let n = c.loop-place.place in
    let w = pair_at (TellsBody file seen) (bodies_of seen) c.args.bodies.now tell n c.index-bodies-place.result
    (slice_get_read c.args.bodies.now (length c.args.bodies.now) n c.index-bodies-place.result refl c.loop-place-test.true
    c.index-bodies-place.is) in
    claims_next (body_claims (facts_by_name c.args.table.now) seen file) n w.first
    (drop (n + 1) (bodies_of seen)) (drop n (bodies_of seen)) (map claim_view c.loop-place.claims.items)
    (map claim_view c.add_body.new.claims.items) _ (next_is (TellsBody file seen) (bodies_of seen) n c.index-bodies-place.result w)
    (c.in_ok-add_body.ensures file seen w.first w.is_so)
    (c.loop-place.invariant file seen tell)

pub returns : goal.returns
returns c = λ file seen tell.
    claims_all (body_claims (facts_by_name c.args.table.now) seen file) c.loop-place.place
    (drop c.loop-place.place (bodies_of seen)) (map claim_view c.loop-place.claims.items) _
    (drop_all c.loop-place.place (bodies_of seen)
    (let size = AllZip-long (TellsBody file seen) (bodies_of seen) c.args.bodies.now tell in
    omega (arith, size, c.loop-place-test.false)))
    (c.loop-place.invariant file seen tell)
