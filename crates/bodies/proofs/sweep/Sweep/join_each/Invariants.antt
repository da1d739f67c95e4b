use Rattle.std.proofs.Common.{drop}
use Rattle.bodies.specs.JoinedStates.{Joins}
use Rattle.bodies.specs.declared.sweep.Sweep.{Sweep}
use Rattle.bodies.proofs.sweep.Sweep.join_each.Given as goal

-- what joins the image at the nodes that are left joins it at all
abbrev pub invariant-loop-node : goal.invariant-loop-node
invariant-loop-node l =
    (end : Sweep) → Joins (drop l.node-index l.nodes) l.image.words l.self end → Joins l.nodes l.image.words l.initial.self end
