use Rattle.std.proofs.lemmas.Option.{slice_get-get_or}
use Rattle.bodies.proofs.ChangedMasks.{none_changed, next_changed}
use Rattle.bodies.proofs.state.State.apply_groups.Goals as goal

pub loop-place-init : goal.loop-place-init
loop-place-init g c = none_changed _ _ _ _ _

pub loop-place-preserved : goal.loop-place-preserved
loop-place-preserved g c =
    next_changed _ _ _ c.args.variables.now.groups.now _ c.loop-place.place _ _ _ c.loop-place.invariant
    (slice_get-get_or c.args.variables.now.groups.now c.loop-place.place 0 c.loop-place-test.true)
    c.change.ensures
