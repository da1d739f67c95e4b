use Rattle.names.proofs.FirstLocals.{none_yet, declared_next, used_next}
use Rattle.names.proofs.locals.first_locals.Goals as goal
use Rattle.names.proofs.locals.first_locals.Goals.{in-Declaration+in_ok-add_local, in_default}

pub loop-naming-init : goal.loop-naming-init
loop-naming-init c = none_yet _ c.new-locals.ensures.empty

pub loop-naming-preserved : goal.loop-naming-preserved
loop-naming-preserved c =
    let below = c.loop-naming-test.true in
    let before = c.loop-naming.invariant in
    elim c.match-naming.branch [
      | in-Declaration+in_ok-add_local w ↦
          let added = w.in_ok-add_local.ensures _ before in
          declared_next c.args.namings.now _ _ below _ _ w.locals-is w.in-Declaration.local w.in-Declaration.is added
      | in_default w ↦ used_next c.args.namings.now _ _ below _ _ w.locals-is _ _ w.in_default.is before
    ]
