use Rattle.std.proofs.Common.{◌≡◌, ℕ, Bool, drop, map, refl, subst}
use Rattle.events.specs.VariableViews.{variable_view}
use Rattle.meaning.specs.Uses.{Event}
use Rattle.checker.specs.CertificateTests.{all_step_into}
use Rattle.checker.specs.LaidOutViews.{masks_of}
use Rattle.checker.proofs.Laid.{edges_left, edges_next, edges_stop, edges_end}
use Rattle.checker.proofs.edges.edges_hold.Goals as goal

pub loop-number-init : goal.loop-number-init
loop-number-init g c = λ laid. refl

pub loop-number-preserved : goal.loop-number-preserved
loop-number-preserved g c = λ laid.
    let test : ℕ → Event → ℕ → Bool = λ n e m.
    all_step_into c.args.laid_out.now.groups.items (map variable_view c.args.laid_out.now.variables.now)
    (g.P.Promises.promises c.args.promises.now) e (masks_of c.args.laid_out.now c.args.states.now n)
    (masks_of c.args.laid_out.now c.args.states.now m) in
    edges_next test c.loop-number.number c.deref-node-items.result.now c.node-item.result c.loop-number-test.true
    c.node-item.is c.node_holds.result (edges_left test 0 c.deref-node-items.result.now) (c.node_holds.ensures laid)
    (c.loop-number.invariant laid)
    c.if-not-node_holds.false

pub returns-then-not-node_holds : goal.returns-then-not-node_holds
returns-then-not-node_holds g c = λ laid.
    let test : ℕ → Event → ℕ → Bool = λ n e m.
    all_step_into c.args.laid_out.now.groups.items (map variable_view c.args.laid_out.now.variables.now)
    (g.P.Promises.promises c.args.promises.now) e (masks_of c.args.laid_out.now c.args.states.now n)
    (masks_of c.args.laid_out.now c.args.states.now m) in
    edges_stop test c.loop-number.number c.deref-node-items.result.now c.node-item.result c.loop-number-test.true
    c.node-item.is c.node_holds.result _ (c.node_holds.ensures laid)
    (subst (λ nodes. edges_left test c.loop-number.number (drop c.loop-number.number c.deref-node-items.result.now) ≡ edges_left test 0 nodes)
    c.deref-node-items.ensures.value (c.loop-number.invariant laid)) c.if-not-node_holds.true

pub returns : goal.returns
returns g c = λ laid.
    let test : ℕ → Event → ℕ → Bool = λ n e m.
    all_step_into c.args.laid_out.now.groups.items (map variable_view c.args.laid_out.now.variables.now)
    (g.P.Promises.promises c.args.promises.now) e (masks_of c.args.laid_out.now c.args.states.now n)
    (masks_of c.args.laid_out.now c.args.states.now m) in
    edges_end test c.loop-number.number c.deref-node-items.result.now _ c.loop-number-test.false
    (subst (λ nodes. edges_left test c.loop-number.number (drop c.loop-number.number c.deref-node-items.result.now) ≡ edges_left test 0 nodes)
    c.deref-node-items.ensures.value (c.loop-number.invariant laid))
