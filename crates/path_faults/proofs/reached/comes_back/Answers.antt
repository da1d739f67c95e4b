use Rattle.std.proofs.Common.{ap}
use Rattle.bodies.specs.NodeEvents.{events_graph}
use Rattle.facts.specs.FactViews.{kind_view}
use Rattle.path_faults.proofs.CameBack.{comes_are}
use Rattle.path_faults.proofs.VariableAtPlace.{kind_there, none_there}
use Rattle.path_faults.proofs.reached.comes_back.Goals as goal

pub returns-in-Some : goal.returns-in-Some
returns-in-Some g c = λ b is_graph same_variables tells v there.
    comes_are (g.A.Arrivals.cancels c.args.arrivals.now) (g.A.Arrivals.groups c.args.arrivals.now)
    (g.A.Arrivals.pending_groups c.args.arrivals.now) (g.met.A.Arrivals.no_others c.args.arrivals.now)
    (events_graph c.args.graph.now).nodes c.args.variable c.some_return_is_reached.result
    (kind_view c.in-Some.found.now.kind) c.some_return_is_reached.ensures b (ap (λ x. x.nodes) is_graph) tells v there
    (kind_there c.args.variables.now c.args.variable c.in-Some.found.now c.in-Some.ensures.lookup.3.0
    c.in-Some.ensures.lookup.1 b.variables same_variables v there)

pub returns-in-None : goal.returns-in-None
returns-in-None g c = λ b is_graph same_variables tells v there.
    absurd (none_there c.args.variables.now c.args.variable c.in-None.ensures.lookup.3 b.variables same_variables v there)
