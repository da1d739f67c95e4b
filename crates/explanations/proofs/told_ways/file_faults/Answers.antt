use Rattle.std.proofs.Common.{◌+◌, [], length, map, refl, sym, ap, drop, subst, arith}
use Rattle.std.proofs.lemmas.List.{drop_all}
use Rattle.std.proofs.lemmas.Option.{slice_get_read}
use Rattle.std.proofs.lemmas.Slice.Zip.{AllZip-long}
use Rattle.bodies.specs.Bodies.{TellsBody, TellBodies}
use Rattle.body_ways.specs.ToldViews.{told_fault_view}
use Rattle.calls_flags.specs.KnownCalls.{known_calls}
use Rattle.credits.proofs.PairedLists.{pair_at, next_is}
use Rattle.explanations.proofs.ToldBodies.{AddsOn, adds_next, adds_all, all_told}
use Rattle.meaning.specs.BodyEvents.{bodies_of}
use Rattle.explanations.proofs.told_ways.file_faults.Goals as goal

pub loop-body-init : goal.loop-body-init
loop-body-init c = λ number f tells.
    subst (λ ts. AddsOn (known_calls c.args.calls) f [] (map told_fault_view ts) (bodies_of f.seen) (bodies_of f.seen))
    (sym c.new-faults.ensures.items) (λ after adds. adds)

pub loop-body-preserved : goal.loop-body-preserved
loop-body-preserved c = λ number f tells.
    let calls = known_calls c.args.calls in
    let i = c.loop-body.body-index in
    let bs = bodies_of f.seen in
    let there = subst (TellBodies number f.seen) (sym c.deref-body-items.ensures.value) tells.are_bodies in
    let w = pair_at (TellsBody number f.seen) bs c.deref-body-items.result.now there i c.body-item.result
    (slice_get_read c.deref-body-items.result.now (length c.deref-body-items.result.now) i c.body-item.result refl
    c.loop-body-test.true c.body-item.is) in
    adds_next calls f [] (map told_fault_view c.loop-body.faults.items)
    (map told_fault_view c.add_body.new.faults.items) w.first (drop (i + 1) bs) (drop i bs) bs
    (next_is (TellsBody number f.seen) bs i c.body-item.result w)
    (c.in_ok-add_body.ensures number f tells w.first w.is_so)
    (c.loop-body.invariant number f tells)

pub returns : goal.returns
returns c = λ number f tells.
    let calls = known_calls c.args.calls in
    let bs = bodies_of f.seen in
    let told = map told_fault_view c.loop-body.faults.items in
    all_told calls f [] told bs refl
    (adds_all calls f [] told (drop c.loop-body.body-index bs) bs
    (drop_all c.loop-body.body-index bs
    (let size = AllZip-long (TellsBody number f.seen) bs c.args.file.now.bodies.items tells.are_bodies in
    let same = ap length c.deref-body-items.ensures.value in
    omega (arith, size, same, c.loop-body-test.false)))
    (c.loop-body.invariant number f tells))
