use Rattle.std.proofs.Common.{◌≡◌, ◌-◌, refl, suc, ◌∙◌, arith}
use Rattle.bodies.proofs.SweptColumns.{begun, swept, done, less, counted_after}
use Rattle.bodies.proofs.sweep.states_at_nodes.Goals as goal

pub loop-sweep-init : goal.loop-sweep-init
loop-sweep-init g c =
    begun (g.P.Promises.promises c.args.promises.now) c.args.variables.now c.args.entry.now.words c.args.graph.now
    c.len.result c.deref.result.now c.in_ok-sweep.sweep c.join_each.new.self
    (c.len.ensures ∙ c.args.graph.now.nodes.ok.0) c.deref.ensures.value c.in_ok-sweep.ensures c.join_each.ensures

pub loop-sweep-preserved : goal.loop-sweep-preserved
loop-sweep-preserved g c =
    let p = g.P.Promises.promises c.args.promises.now in
    let more = c.loop-sweep-test.true in
    let last : c.loop-sweep.sweep.left ≡ suc (c.loop-sweep.sweep.left - 1) = omega (arith, more) in
    swept p c.args.variables.now c.args.entry.now.words c.args.graph.now c.loop-sweep.sweep _ c.follow.new.self
    c.loop-sweep.invariant refl last
    (counted_after p c.args.variables.now c.args.entry.now.words c.args.graph.now _ c.follow.new.self _
    c.follow.ensures)
    c.follow.ensures

pub loop-sweep-smaller : goal.loop-sweep-smaller
loop-sweep-smaller g c =
    let p = g.P.Promises.promises c.args.promises.now in
    let more = c.loop-sweep-test.true in
    let last : c.loop-sweep.sweep.left ≡ suc (c.loop-sweep.sweep.left - 1) = omega (arith, more) in
    less p c.args.variables.now c.args.entry.now.words c.args.graph.now c.loop-sweep.sweep _ c.follow.new.self _ refl
    last c.follow.ensures

pub returns : goal.returns
returns g c =
    let over = c.loop-sweep-test.false in
    done (g.P.Promises.promises c.args.promises.now) c.args.variables.now c.args.entry.now.words c.args.graph.now
    c.loop-sweep.sweep c.loop-sweep.invariant (omega (arith, over))
