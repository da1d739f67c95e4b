use Rattle.std.proofs.lemmas.Option.{slice_get-get_or}
use Rattle.tracked_rows.specs.EventViews.{event_view}
use Rattle.bodies.proofs.ChangedMasks.{none_changed, next_changed, cancel_stays}
use Rattle.bodies.proofs.state.State.apply_cancels.Goals as goal

pub loop-place-init : goal.loop-place-init
loop-place-init g c = none_changed _ _ _ _ _

pub change-requires-clause-stays : goal.change-requires-clause-stays
change-requires-clause-stays g c =
    cancel_stays (g.P.Promises.promises c.args.promises.now) _ c.args.variables.now.pending.now
    (event_view c.args.event.now)

pub loop-place-preserved : goal.loop-place-preserved
loop-place-preserved g c =
    next_changed _ _ _ c.args.variables.now.cancels.now _ c.loop-place.place _ _ _ c.loop-place.invariant
    (slice_get-get_or c.args.variables.now.cancels.now c.loop-place.place 0 c.loop-place-test.true)
    c.change.ensures
