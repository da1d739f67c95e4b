use Rattle.std.proofs.Common.{map, ap}
use Rattle.bodies.specs.NodeEvents.{events_graph}
use Rattle.events.specs.VariableViews.{variable_view}
use Rattle.path_faults.specs.FaultViews.{fault_view}
use Rattle.path_faults.specs.LiveViews.{has_live}
use Rattle.path_faults.proofs.Kept.{added_to_none, faults_are}
use Rattle.path_faults.proofs.paths.path_faults.Goals as goal

pub returns : goal.returns
returns g c = λ b is_graph same_variables tells.
    faults_are (map variable_view c.args.variables.now) (g.A.Arrivals.cancels c.args.arrivals.now)
    (g.A.Arrivals.groups c.args.arrivals.now) (g.A.Arrivals.pending_groups c.args.arrivals.now)
    (g.met.A.Arrivals.no_others c.args.arrivals.now) (events_graph c.args.graph.now).nodes
    (has_live c.in_ok-live.live) c.in_ok-live.ensures (map fault_view c.add_nodes.new.faults.items)
    (added_to_none (map fault_view c.new-faults.result.items) (map fault_view c.add_nodes.new.faults.items) _
    (ap (map fault_view) c.new-faults.ensures.items) c.in_ok-add_nodes.ensures)
    b (ap (λ x. x.nodes) is_graph) same_variables tells
