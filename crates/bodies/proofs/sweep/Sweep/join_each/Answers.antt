use Rattle.std.proofs.Common.{List, ℕ, subst, sym}
use Rattle.std.proofs.lemmas.List.{drop_more, drop_all}
use Rattle.bodies.specs.JoinedStates.{Joins}
use Rattle.bodies.proofs.JoinedStates.{joins_none, joins_then}
use Rattle.bodies.proofs.sweep.Sweep.join_each.Goals as goal

pub loop-node-init : goal.loop-node-init
loop-node-init c end h = h

pub loop-node-preserved : goal.loop-node-preserved
loop-node-preserved c end h =
    let image = c.args.image.now.words in
    c.loop-node.invariant end
    (subst (λ (ns : List ℕ). Joins ns image c.loop-node.self end)
    (sym (drop_more c.args.nodes.now c.loop-node.node-index 0 c.loop-node-test.true))
    (joins_then _ _ image c.loop-node.self c.join_at.new.self end c.join_at.ensures h))

pub returns : goal.returns
returns c =
    let image = c.args.image.now.words in
    c.loop-node.invariant c.loop-node.self
    (subst (λ (ns : List ℕ). Joins ns image c.loop-node.self c.loop-node.self)
    (sym (drop_all c.loop-node.node-index c.args.nodes.now c.loop-node-test.false))
    (joins_none image c.loop-node.self))
