use Rattle.std.proofs.Common.{◌+◌, ◌++◌, ◌<◌, length, refl, sym, ap, map, drop, subst, arith}
use Rattle.bodies.specs.Bodies.{TellBodies}
use Rattle.std.proofs.lemmas.List.{drop_all}
use Rattle.std.proofs.lemmas.Option.{slice_get_read}
use Rattle.facts.specs.FactViews.{facts_by_name}
use Rattle.path_faults.specs.FoundFaults.{each_from}
use Rattle.calls_flags.proofs.ClaimsAdded.{claims_next, claims_all}
use Rattle.path_faults.proofs.Places.{element_at}
use Rattle.calls_flags.specs.Claims.{claim_view, file_claims}
use Rattle.calls_flags.proofs.claims.find_claims.Goals as goal

pub loop-file-init : goal.loop-file-init
loop-file-init c = λ fs tell.
    ap (λ cs. map claim_view cs ++ each_from (file_claims (facts_by_name c.args.table.now)) 0 fs) c.new-claims.ensures.items

pub loop-file-preserved : goal.loop-file-preserved
loop-file-preserved c = λ fs tell.
    let n = c.loop-file.file-index in
    let within : c.loop-file.file-index < length fs =
    (let same = tell.are_as_many in omega (arith, same, c.loop-file-test.true)) in
    let f = element_at fs n within in
    let told = tell.each n f.0 c.file-item.result f.2
    (slice_get_read c.args.files.now (length c.args.files.now) n c.file-item.result refl c.loop-file-test.true
    c.file-item.is) in
    claims_next (file_claims (facts_by_name c.args.table.now)) n f.0 (drop (n + 1) fs) (drop n fs)
    (map claim_view c.loop-file.claims.items) (map claim_view c.add_bodies.new.claims.items) _ f.1
    (c.in_ok-add_bodies.ensures n f.0.seen
    (subst (TellBodies n f.0.seen) (sym c.deref.ensures.value) told.are_bodies)) (c.loop-file.invariant fs tell)

pub returns : goal.returns
returns c = λ fs tell.
    claims_all (file_claims (facts_by_name c.args.table.now)) c.loop-file.file-index (drop c.loop-file.file-index fs)
    (map claim_view c.loop-file.claims.items) _
    (drop_all c.loop-file.file-index fs (let same = tell.are_as_many in omega (arith, same, c.loop-file-test.false)))
    (c.loop-file.invariant fs tell)
