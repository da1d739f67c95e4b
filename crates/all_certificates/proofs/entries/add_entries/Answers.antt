use Rattle.std.proofs.Common.{◌+◌, length, map, refl, drop, arith}
use Rattle.std.proofs.lemmas.List.{drop_all}
use Rattle.std.proofs.lemmas.Option.{slice_get_read}
use Rattle.std.proofs.lemmas.Slice.Zip.{AllZip-long}
use Rattle.all_certificates.proofs.AddedEntries.{adds_first, adds_next, adds_all}
use Rattle.all_certificates.specs.CertifiedBodies.{AreOfBody}
use Rattle.bodies.specs.Bodies.{TellsBody}
use Rattle.calls_flags.specs.KnownCalls.{known_calls}
use Rattle.certificate_json.specs.Certificates.{body_of}
use Rattle.credits.proofs.PairedLists.{pair_at, next_is}
use Rattle.credits.specs.CreditViews.{has}
use Rattle.meaning.specs.BodyEvents.{bodies_of}
use Rattle.all_certificates.proofs.entries.add_entries.Goals as goal

pub loop-body-init : goal.loop-body-init
loop-body-init c = λ number seen told tell.
    adds_first (AreOfBody (known_calls c.args.grounds.calls) (has c.args.grounds.credits.now) number seen)
    (bodies_of seen) (map body_of c.args.entries.now.items)

pub loop-body-preserved : goal.loop-body-preserved
loop-body-preserved c = λ number seen told tell.
    let i = c.loop-body.body-index in
    let bs = bodies_of seen in
    let w = pair_at (TellsBody number seen) bs c.args.bodies.now tell i c.body-item.result
    (slice_get_read c.args.bodies.now (length c.args.bodies.now) i c.body-item.result refl c.loop-body-test.true
    c.body-item.is) in
    adds_next (AreOfBody (known_calls c.args.grounds.calls) (has c.args.grounds.credits.now) number seen) bs
    (map body_of c.args.entries.now.items) w.first (drop (i + 1) bs) (drop i bs)
    (map body_of c.loop-body.entries.items) (map body_of c.add_entry.new.entries.items)
    (next_is (TellsBody number seen) bs i c.body-item.result w)
    (c.in_ok-add_entry.ensures number seen w.first told w.is_so) (c.loop-body.invariant number seen told tell)

pub returns : goal.returns
returns c = λ number seen told tell.
    adds_all (AreOfBody (known_calls c.args.grounds.calls) (has c.args.grounds.credits.now) number seen) (bodies_of seen)
    (map body_of c.args.entries.now.items) (drop c.loop-body.body-index (bodies_of seen))
    (map body_of c.loop-body.entries.items)
    (drop_all c.loop-body.body-index (bodies_of seen)
    (let size = AllZip-long (TellsBody number seen) (bodies_of seen) c.args.bodies.now tell in
    omega (arith, size, c.loop-body-test.false)))
    (c.loop-body.invariant number seen told tell)
