use Rattle.std.proofs.Common.{◌≡◌, ◌++◌, ℕ, List, drop, map}
use Rattle.bodies.specs.NodeEvents.{node_event_view, changed}
use Rattle.flow.specs.GraphViews.{occurrences_of}
use Rattle.meaning.specs.Code.{Occurrence}
use Rattle.meaning.specs.Uses.{Event}
use Rattle.meaning_packages.specs.PathFaults.{PathFault}
use Rattle.events.specs.VariableViews.{variable_view}
use Rattle.path_faults.specs.FaultViews.{fault_view}
use Rattle.path_faults.specs.FoundFaults.{each_from, event_faults}
use Rattle.path_faults.specs.LiveViews.{has_live}
use Rattle.path_faults.proofs.paths.add_nodes.Given as goal

-- what was added, with what is left, is the whole
abbrev pub invariant-loop-number : goal.invariant-loop-number
invariant-loop-number g l =
    let gives : ℕ → Occurrence Event → List PathFault = λ n o.
    event_faults (map variable_view l.variables) (g.A.Arrivals.cancels l.arrivals) (g.A.Arrivals.groups l.arrivals)
    (g.A.Arrivals.pending_groups l.arrivals) (has_live l.live o.at o.order) n o.at o.event in
    map fault_view l.faults.items
    ++ each_from gives l.number (map (changed node_event_view) (occurrences_of (drop l.number l.node-items)))
    ≡ map fault_view l.initial.faults.items
    ++ each_from gives 0 (map (changed node_event_view) (occurrences_of l.node-items))
