use Rattle.std.proofs.Common.{◌≡◌, ℕ, Bool, get_or, drop, map, refl, subst}
use Rattle.std.specs.List.{list_all}
use Rattle.bodies.specs.NodeEvents.{node_event_view}
use Rattle.events.specs.VariableViews.{variable_view}
use Rattle.checker.specs.CertificateTests.{all_step_into}
use Rattle.checker.specs.LaidOutViews.{masks_of}
use Rattle.checker.proofs.Laid.{at_nodes}
use Rattle.checker.proofs.TestedLists.{next_tested, stop_tested, end_tested}
use Rattle.checker.proofs.edges.node_holds.Goals as goal

pub loop-after-init : goal.loop-after-init
loop-after-init g c = λ laid. refl

pub loop-after-preserved : goal.loop-after-preserved
loop-after-preserved g c = λ laid.
    let l = c.args.laid_out.now in
    let states = c.args.states.now in
    let p = g.P.Promises.promises c.args.promises.now in
    let e = node_event_view c.args.node.now.occurrence.event in
    let test : ℕ → Bool = λ after.
    all_step_into l.groups.items (map variable_view l.variables.now) p e (masks_of l states c.args.number)
    (masks_of l states after) in
    next_tested test c.deref-after-items.result.now c.loop-after.after-index (get_or c.deref-after-items.result.now c.loop-after.after-index 0) 0
    c.goes_into.result _ c.loop-after-test.true refl
    (at_nodes l states p e c.args.number (get_or c.deref-after-items.result.now c.loop-after.after-index 0)
    c.masks_at-before.result.now c.masks_at.result.now
    c.goes_into.result c.masks_at-before.ensures c.masks_at.ensures
    (c.goes_into.ensures p e c.masks_at-before.result.now laid (c.image_of-image.ensures laid)))
    (c.loop-after.invariant laid) c.if-not-goes_into.false

pub returns-then-not-goes_into : goal.returns-then-not-goes_into
returns-then-not-goes_into g c = λ laid.
    let l = c.args.laid_out.now in
    let states = c.args.states.now in
    let p = g.P.Promises.promises c.args.promises.now in
    let e = node_event_view c.args.node.now.occurrence.event in
    let test : ℕ → Bool = λ after.
    all_step_into l.groups.items (map variable_view l.variables.now) p e (masks_of l states c.args.number)
    (masks_of l states after) in
    stop_tested test c.deref-after-items.result.now c.loop-after.after-index (get_or c.deref-after-items.result.now c.loop-after.after-index 0) 0
    c.goes_into.result _ c.loop-after-test.true refl
    (at_nodes l states p e c.args.number (get_or c.deref-after-items.result.now c.loop-after.after-index 0)
    c.masks_at-before.result.now c.masks_at.result.now
    c.goes_into.result c.masks_at-before.ensures c.masks_at.ensures
    (c.goes_into.ensures p e c.masks_at-before.result.now laid (c.image_of-image.ensures laid)))
    (subst (λ items. list_all test (drop c.loop-after.after-index c.deref-after-items.result.now) ≡ list_all test items)
    c.deref-after-items.ensures.value (c.loop-after.invariant laid)) c.if-not-goes_into.true

pub returns : goal.returns
returns g c = λ laid.
    let l = c.args.laid_out.now in
    let states = c.args.states.now in
    let test : ℕ → Bool = λ after.
    all_step_into l.groups.items (map variable_view l.variables.now) (g.P.Promises.promises c.args.promises.now)
    (node_event_view c.args.node.now.occurrence.event) (masks_of l states c.args.number) (masks_of l states after) in
    end_tested test c.deref-after-items.result.now c.loop-after.after-index _ c.loop-after-test.false
    (subst (λ items. list_all test (drop c.loop-after.after-index c.deref-after-items.result.now) ≡ list_all test items)
    c.deref-after-items.ensures.value (c.loop-after.invariant laid))
