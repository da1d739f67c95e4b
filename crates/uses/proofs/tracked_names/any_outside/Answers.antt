use Rattle.tracked.specs.LocalViews.{seen_view}
use Rattle.uses.proofs.TrackedOutside.{one_found, none_found, none_left}
use Rattle.uses.proofs.tracked_names.any_outside.Goals as goal

pub returns-then-names_tracked_outside : goal.returns-then-names_tracked_outside
returns-then-names_tracked_outside c =
    one_found (seen_view c.args.seen.now) c.args.marks.now c.loop-mark.mark-index c.mark-item.result
    c.loop-mark-test.true c.mark-item.is c.loop-mark.bodies.items c.enter.new.bodies.items c.deref.result.now
    c.in_ok-enter.ensures c.deref.ensures.value _ c.names_tracked_outside.ensures _ c.loop-mark.invariant
    c.if-names_tracked_outside.true

pub loop-mark-preserved : goal.loop-mark-preserved
loop-mark-preserved c =
    none_found (seen_view c.args.seen.now) c.args.marks.now c.loop-mark.mark-index c.mark-item.result
    c.loop-mark-test.true c.mark-item.is c.loop-mark.bodies.items c.enter.new.bodies.items c.deref.result.now
    c.in_ok-enter.ensures c.deref.ensures.value _ c.names_tracked_outside.ensures _ c.loop-mark.invariant
    c.if-names_tracked_outside.false

pub returns : goal.returns
returns c =
    none_left (seen_view c.args.seen.now) c.args.marks.now c.loop-mark.mark-index c.loop-mark-test.false _ _ c.loop-mark.invariant
