use Rattle.std.proofs.Common.{◌≡◌, ◌++◌, drop}
use Rattle.bodies.specs.NodeEvents.{events_graph}
use Rattle.way_notes.specs.Offsets.{offsets_at}
use Rattle.way_notes.proofs.offsets.offsets_at.Given as goal

-- what was made, with what is left, is the whole
abbrev pub invariant-loop-node : goal.invariant-loop-node
invariant-loop-node l =
    l.offsets.items ++ offsets_at (events_graph l.graph) (drop l.node-index l.nodes)
    ≡ offsets_at (events_graph l.graph) l.nodes
