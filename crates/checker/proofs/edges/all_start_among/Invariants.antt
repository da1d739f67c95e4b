use Rattle.std.proofs.Common.{◌≡◌, drop, map}
use Rattle.bodies.specs.NodeEvents.{node_event_view, changed}
use Rattle.flow.specs.GraphViews.{occurrences_of}
use Rattle.checker.specs.CertificateTests.{all_start_among}
use Rattle.checker.proofs.edges.all_start_among.Given as goal

-- the test of those that are left is that of all
abbrev pub invariant-loop-node : goal.invariant-loop-node
invariant-loop-node l =
    all_start_among l.laid_out.groups.items (map (changed node_event_view) (occurrences_of (drop l.node-index l.node-items)))
    ≡ all_start_among l.laid_out.groups.items (map (changed node_event_view) (occurrences_of l.node-items))
