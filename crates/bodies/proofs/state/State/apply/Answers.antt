use Rattle.tracked_rows.specs.EventViews.{event_view}
use Rattle.bodies.proofs.ChangedMasks.{applies}
use Rattle.bodies.proofs.state.State.apply.Goals as goal

pub returns : goal.returns
returns g c =
    applies (g.P.Promises.promises c.args.promises.now) (event_view c.args.event.now) c.args.variables.now
    c.requires.fits _ _ _ c.apply_cancels.ensures c.apply_groups.ensures
