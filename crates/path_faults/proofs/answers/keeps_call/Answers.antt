use Rattle.std.proofs.Common.{map, ap}
use Rattle.bodies.specs.NodeEvents.{events_graph}
use Rattle.events.specs.VariableViews.{variable_view}
use Rattle.path_faults.specs.LiveViews.{has_live}
use Rattle.path_faults.proofs.Kept.{keeps_are}
use Rattle.path_faults.proofs.answers.keeps_call.Goals as goal

pub returns : goal.returns
returns g c = λ b is_graph same_variables tells.
    keeps_are (map variable_view c.args.variables.now) (g.A.Arrivals.cancels c.args.arrivals.now)
    (g.A.Arrivals.groups c.args.arrivals.now) (g.A.Arrivals.pending_groups c.args.arrivals.now)
    (g.met.A.Arrivals.no_others c.args.arrivals.now) (events_graph c.args.graph.now).nodes
    (has_live c.in_ok-live.live) c.in_ok-live.ensures c.args.variable c.breaks_call.result c.breaks_call.ensures b
    (ap (λ x. x.nodes) is_graph) same_variables tells
