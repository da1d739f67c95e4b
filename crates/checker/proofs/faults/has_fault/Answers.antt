use Rattle.std.proofs.Common.{◌≡◌, ℕ, Bool, drop, map, subst}
use Rattle.events.specs.VariableViews.{variable_view}
use Rattle.meaning.specs.Uses.{Event}
use Rattle.checker.specs.CertificateTests.{cancels_told, groups_told, lives_told, node_breaks}
use Rattle.checker.specs.LaidOutViews.{masks_of}
use Rattle.checker.proofs.Laid.{any_left, any_next, any_stop}
use Rattle.checker.proofs.faults.has_fault.Goals as goal

pub loop-number-preserved : goal.loop-number-preserved
loop-number-preserved g c =
    let l = c.args.laid_out.now in
    let masks = masks_of l c.args.states.now in
    let test : ℕ → Event → Bool = λ n e.
    node_breaks (map variable_view l.variables.now) (cancels_told l.groups.items masks) (groups_told masks) l.groups.items
    (lives_told masks n) (g.C.Claims.claims c.args.claims.now) n e in
    any_next test c.loop-number.number c.deref-node-items.result.now c.node-item.result c.loop-number-test.true
    c.node-item.is c.node_breaks.result (any_left test 0 c.deref-node-items.result.now) c.node_breaks.ensures
    c.loop-number.invariant c.if-node_breaks.false

pub returns-then-node_breaks : goal.returns-then-node_breaks
returns-then-node_breaks g c =
    let l = c.args.laid_out.now in
    let masks = masks_of l c.args.states.now in
    let test : ℕ → Event → Bool = λ n e.
    node_breaks (map variable_view l.variables.now) (cancels_told l.groups.items masks) (groups_told masks) l.groups.items
    (lives_told masks n) (g.C.Claims.claims c.args.claims.now) n e in
    any_stop test c.loop-number.number c.deref-node-items.result.now c.node-item.result c.loop-number-test.true
    c.node-item.is c.node_breaks.result _ c.node_breaks.ensures
    (subst (λ nodes. any_left test c.loop-number.number (drop c.loop-number.number c.deref-node-items.result.now) ≡ any_left test 0 nodes)
    c.deref-node-items.ensures.value c.loop-number.invariant) c.if-node_breaks.true
