use Rattle.std.proofs.Common.{◌+◌, length, refl, drop, arith}
use Rattle.std.proofs.lemmas.List.{drop_all}
use Rattle.std.proofs.lemmas.Option.{slice_get_read}
use Rattle.std.proofs.lemmas.Slice.Zip.{AllZip-long}
use Rattle.bodies.specs.Bodies.{TellsBody}
use Rattle.calls_flags.specs.KnownCalls.{known_calls}
use Rattle.credits.proofs.PairedLists.{pair_at, next_is}
use Rattle.credits.specs.CreditViews.{has}
use Rattle.findings.proofs.FoundParts.{adds_next, adds_all, first_body, no_body}
use Rattle.meaning.specs.BodyEvents.{bodies_of}
use Rattle.verifier.specs.FoundBodies.{with_table}
use Rattle.verifier.specs.SaidEntries.{IsUseOrPass, IsUseOrPassIn}
use Rattle.verifier.proofs.said.add_bodies.Goals as goal

pub loop-body-init : goal.loop-body-init
loop-body-init c = λ number seen told tell after adds. adds

pub loop-body-preserved : goal.loop-body-preserved
loop-body-preserved c = λ number seen told tell.
    let calls = known_calls c.args.grounds.calls in
    let f = with_table seen (has c.args.credits.now) in
    let i = c.loop-body.body-index in
    let bs = bodies_of seen in
    let w = pair_at (TellsBody number seen) bs c.args.bodies.now tell i c.body-item.result
    (slice_get_read c.args.bodies.now (length c.args.bodies.now) i c.body-item.result refl c.loop-body-test.true
    c.body-item.is) in
    adds_next c.args.diagnostics.now.items c.loop-body.diagnostics.items
    (IsUseOrPass calls number f w.first) (IsUseOrPassIn calls number f (drop (i + 1) bs))
    (IsUseOrPassIn calls number f (drop i bs)) (IsUseOrPassIn calls number f bs)
    (first_body (IsUseOrPass calls number f) w.first (drop (i + 1) bs) (drop i bs) (next_is (TellsBody number seen) bs i c.body-item.result w))
    c.add_body.new.diagnostics.items (c.in_ok-add_body.ensures number seen w.first told w.is_so)
    (c.loop-body.invariant number seen told tell)

pub returns : goal.returns
returns c = λ number seen told tell.
    adds_all c.args.diagnostics.now.items c.loop-body.diagnostics.items _ _
    (no_body (IsUseOrPass (known_calls c.args.grounds.calls) number (with_table seen (has c.args.credits.now)))
    (drop c.loop-body.body-index (bodies_of seen))
    (drop_all c.loop-body.body-index (bodies_of seen)
    (let size = AllZip-long (TellsBody number seen) (bodies_of seen) c.args.bodies.now tell in
    omega (arith, size, c.loop-body-test.false))))
    (c.loop-body.invariant number seen told tell)
