use Rattle.std.proofs.Common.{subst}
use Rattle.std.specs.List.{AllZip}
use Rattle.bodies.proofs.BodiesTold.{TellsAt, tell_bodies}
use Rattle.bodies.proofs.ZippedLists.{zips_next, zips_all}
use Rattle.bodies.proofs.body.bodies.Goals as goal

pub loop-place-preserved : goal.loop-place-preserved
loop-place-preserved c =
    zips_next (TellsAt c.args.file c.args.told.now c.args.variables.now) c.deref-place-items.result.now
    c.loop-place.place-index c.place-item.result c.loop-place-test.true c.place-item.is c.loop-place.bodies.items
    c.push.new.self.items c.in_ok-body.body c.in_ok-body.ensures c.in_ok-push.ensures.items c.loop-place.invariant

pub returns : goal.returns
returns c =
    let tells = TellsAt c.args.file c.args.told.now c.args.variables.now in
    let bodies = c.loop-place.bodies.items in
    tell_bodies c.args.file c.args.told.now c.args.variables.now bodies
    (subst (λ places. AllZip tells places bodies) c.deref-place-items.ensures.value
    (zips_all tells c.deref-place-items.result.now c.loop-place.place-index bodies c.loop-place-test.false
    c.loop-place.invariant))
