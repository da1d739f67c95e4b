use Rattle.std.proofs.Common.{map}
use Rattle.tracked.specs.LocalViews.{seen_view}
use Rattle.mentions.specs.MarkViews.{body_view}
use Rattle.events.proofs.Sighted.{sightings_next, sightings_last}
use Rattle.events.proofs.sightings.sightings.Goals as goal

pub loop-mark-preserved : goal.loop-mark-preserved
loop-mark-preserved c = λ n.
    sightings_next (seen_view c.args.seen.now) n c.deref-mark-items.result.now c.loop-mark.mark-index c.mark-item.result
    c.loop-mark-test.true c.mark-item.is c.loop-mark.bodies.items c.enter.new.bodies.items c.deref.result.now
    c.in_ok-enter.ensures c.deref.ensures.value c.loop-mark.sightings c.add_mark.new.sightings c.in_ok-add_mark.ensures
    _ (c.loop-mark.invariant n)

pub returns : goal.returns
returns c = λ n.
    sightings_last (seen_view c.args.seen.now) n c.deref-mark-items.result.now c.loop-mark.mark-index
    c.loop-mark-test.false (map body_view c.loop-mark.bodies.items) c.deref-mark-items.ensures.value
    c.loop-mark.sightings (c.loop-mark.invariant n)
