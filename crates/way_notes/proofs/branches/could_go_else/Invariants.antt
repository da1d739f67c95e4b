use Rattle.std.proofs.Common.{◌≡◌, drop, Some}
use Rattle.bodies.specs.NodeEvents.{events_graph}
use Rattle.way_notes.specs.Notes.{could_go_else}
use Rattle.way_notes.proofs.branches.could_go_else.Given as goal

-- the test of those that are left is that of all
abbrev pub invariant-loop-node : goal.invariant-loop-node
invariant-loop-node l =
    could_go_else (events_graph l.graph) l.at (Some (drop l.node-index l.next))
    ≡ could_go_else (events_graph l.graph) l.at (Some l.next)
