use Rattle.std.proofs.Common.{◌+◌, length, refl, sym, ap, drop, subst, arith}
use Rattle.std.proofs.lemmas.List.{drop_all}
use Rattle.std.proofs.lemmas.Option.{slice_get_read}
use Rattle.std.proofs.lemmas.Slice.Zip.{AllZip-long}
use Rattle.bodies.specs.Bodies.{TellsBody, TellBodies}
use Rattle.findings.proofs.FoundParts.{adds_next, adds_all, first_body, no_body}
use Rattle.credits.proofs.PairedLists.{pair_at, next_is}
use Rattle.findings.specs.FoundEntries.{IsBodyEntry, IsEntryOfBodies}
use Rattle.calls_flags.specs.KnownCalls.{known_calls}
use Rattle.meaning.specs.BodyEvents.{bodies_of}
use Rattle.findings.proofs.found.add_bodies.Goals as goal

pub loop-body-init : goal.loop-body-init
loop-body-init c = λ number f tells after adds. adds

pub loop-body-preserved : goal.loop-body-preserved
loop-body-preserved c = λ number f tells.
    let calls = known_calls c.args.calls in
    let i = c.loop-body.body-index in
    let bs = bodies_of f.seen in
    let there = subst (TellBodies number f.seen) (sym c.deref-body-items.ensures.value) tells.are_bodies in
    let w = pair_at (TellsBody number f.seen) bs c.deref-body-items.result.now there i c.body-item.result
    (slice_get_read c.deref-body-items.result.now (length c.deref-body-items.result.now) i c.body-item.result refl
    c.loop-body-test.true c.body-item.is) in
    adds_next c.args.diagnostics.now.items c.loop-body.diagnostics.items
    (IsBodyEntry calls number f w.first) (IsEntryOfBodies calls number f (drop (i + 1) bs))
    (IsEntryOfBodies calls number f (drop i bs)) (IsEntryOfBodies calls number f bs)
    (first_body (IsBodyEntry calls number f) w.first (drop (i + 1) bs) (drop i bs)
    (next_is (TellsBody number f.seen) bs i c.body-item.result w))
    c.add_body.new.diagnostics.items (c.in_ok-add_body.ensures number f tells w.first w.is_so)
    (c.loop-body.invariant number f tells)

pub returns : goal.returns
returns c = λ number f tells.
    adds_all c.args.diagnostics.now.items c.loop-body.diagnostics.items _ _
    (no_body (IsBodyEntry (known_calls c.args.calls) number f) (drop c.loop-body.body-index (bodies_of f.seen))
    (drop_all c.loop-body.body-index (bodies_of f.seen)
    (let size = AllZip-long (TellsBody number f.seen) (bodies_of f.seen) c.args.file.now.bodies.items tells.are_bodies in
    let same = ap length c.deref-body-items.ensures.value in
    omega (arith, size, same, c.loop-body-test.false))))
    (c.loop-body.invariant number f tells)
