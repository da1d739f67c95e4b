use Rattle.std.proofs.Common.{map, refl, arith}
use Rattle.std.proofs.lemmas.List.{get_or_default}
use Rattle.events.specs.VariableViews.{variable_view}
use Rattle.checker.proofs.LoadingRows.{none_so_far, goes_on, stops, all_tested, are_all}
use Rattle.checker.proofs.loaded.state_of.Goals as goal

pub loop-place-init : goal.loop-place-init
loop-place-init c =
    (refl, none_so_far (map variable_view c.args.variables.now) c.args.masks.now _ refl refl c.empty.ensures)

pub loop-place-preserved : goal.loop-place-preserved
loop-place-preserved c =
    goes_on c.args.variables.now c.args.masks.now c.loop-place.place _ c.loop-place.loading
    c.mask_in.result c.add.result c.loop-place-test.true (get_or_default c.args.variables.now c.loop-place.place _ _ c.loop-place-test.true) c.mask_in.ensures c.add.ensures.taken
    c.loop-place.invariant c.add.new.self c.if-not-add.false c.add.ensures.adds

pub returns-then-not-add-clause-there : goal.returns-then-not-add-clause-there
returns-then-not-add-clause-there c =
    stops c.args.variables.now c.args.masks.now c.loop-place.place _ c.loop-place.loading
    c.mask_in.result c.add.result c.loop-place-test.true (get_or_default c.args.variables.now c.loop-place.place _ _ c.loop-place-test.true) c.mask_in.ensures c.add.ensures.taken
    c.loop-place.invariant c.if-not-add.true

pub returns-clause-there : goal.returns-clause-there
returns-clause-there c =
    all_tested c.args.variables.now c.args.masks.now c.loop-place.place c.loop-place.loading c.loop-place-test.false
    c.loop-place.invariant

pub returns-clause-loaded : goal.returns-clause-loaded
returns-clause-loaded c =
    are_all c.args.variables.now c.args.masks.now c.loop-place.place c.loop-place.loading
    (omega (arith, c.loop-place.auto.place-end, c.loop-place-test.false)) c.loop-place.invariant
