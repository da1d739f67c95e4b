use Rattle.std.proofs.Common.{◌<◌, List, length, refl, sym, ap, ◌∙◌, subst, map, arith}
use Rattle.std.proofs.lemmas.Option.{same_Some, slice_get_read}
use Rattle.std.specs.Prelude.{option_and_then}
use Rattle.bodies.specs.Bits.{cancel_class}
use Rattle.bodies.specs.NodeEvents.{node_event_view, events_graph}
use Rattle.events.specs.VariableViews.{variable_view}
use Rattle.flow.specs.GraphViews.{graph_view}
use Rattle.path_faults.specs.FaultViews.{fault_view}
use Rattle.searches.proofs.Searches.{earlier}
use Rattle.searches.specs.Searched.{ComeEarlier, IsTrail}
use Rattle.searches.specs.declared.search.Step.{Step}
use Rattle.ways.proofs.AskedWays.{first_within, asked_none, asked_one}
use Rattle.ways.specs.ClassSteps.{class_step}
use Rattle.ways.specs.Found.{first_from, is_end_step}
use Rattle.ways.specs.Ways.{pending_in, group_told}
use Rattle.ways.proofs.way.Asked.way_of.Goals as goal

pub nodes_back-requires-clause-earlier : goal.nodes_back-requires-clause-earlier
nodes_back-requires-clause-earlier g c =
    let asked = c.args.self.now in
    let v = variable_view c.args.variable in
    subst (λ (steps : List Step). ComeEarlier steps) (sym c.deref-2.ensures.value)
    (earlier (graph_view asked.graph.now)
    (λ e. class_step (g.P.Promises.promises asked.promises.now) asked.groups.now v (node_event_view e))
    c.class_at_entry.result c.in_ok-steps.steps.items c.in_ok-steps.ensures.are_steps)

pub nodes_back-requires-clause-within : goal.nodes_back-requires-clause-within
nodes_back-requires-clause-within g c =
    let asked = c.args.self.now in
    subst (λ (steps : List Step). c.in-Some.last < length steps) (c.deref.ensures.value ∙ sym c.deref-2.ensures.value)
    (first_within
    (is_end_step (events_graph asked.graph.now) (map variable_view asked.variables.now) asked.groups.now
    (g.L.Lives.lives asked.live.now) (variable_view c.args.variable) (fault_view c.args.fault))
    c.deref.result.now c.in-Some.last (sym c.first_end.ensures ∙ c.in-Some.is))

pub index-step-requires : goal.index-step-requires
index-step-requires g c =
    let asked = c.args.self.now in
    let low : c.in-Some.last < length c.in_ok-steps.steps.items =
    subst (λ (steps : List Step). c.in-Some.last < length steps) c.deref.ensures.value
    (first_within
    (is_end_step (events_graph asked.graph.now) (map variable_view asked.variables.now) asked.groups.now
    (g.L.Lives.lives asked.live.now) (variable_view c.args.variable) (fault_view c.args.fault))
    c.deref.result.now c.in-Some.last (sym c.first_end.ensures ∙ c.in-Some.is)) in
    let ok = c.in_ok-steps.steps.ok in
    omega (arith, low, ok)

pub returns-in_default : goal.returns-in_default
returns-in_default g c b is of_body =
    let asked = c.args.self.now in
    let v = variable_view c.args.variable in
    let f = fault_view c.args.fault in
    let lives = g.L.Lives.lives asked.live.now in
    let vs = map variable_view asked.variables.now in
    asked_none b v of_body f lives is.tells_lives asked.graph.now is.is_graph is.have_places
    (g.P.Promises.promises asked.promises.now) is.are_promises vs is.are_variables asked.groups.now is.are_groups
    c.in_ok-steps.steps.items c.class_at_entry.result c.class_at_entry.ensures c.in_ok-steps.ensures
    (ap (first_from (is_end_step (events_graph asked.graph.now) vs asked.groups.now lives v f) 0)
    (sym c.deref.ensures.value) ∙ sym c.first_end.ensures ∙ c.in_default.is)

pub returns : goal.returns
returns g c b is of_body =
    let asked = c.args.self.now in
    let v = variable_view c.args.variable in
    let f = fault_view c.args.fault in
    let lives = g.L.Lives.lives asked.live.now in
    let vs = map variable_view asked.variables.now in
    asked_one b v of_body f lives is.tells_lives asked.graph.now is.is_graph is.have_places
    (g.P.Promises.promises asked.promises.now) is.are_promises vs is.are_variables asked.groups.now is.are_groups
    c.in_ok-steps.steps.items c.class_at_entry.result c.class_at_entry.ensures c.in_ok-steps.ensures
    c.in-Some.last c.in_ok-nodes.nodes.items c.group_told-group.result
    (ap (first_from (is_end_step (events_graph asked.graph.now) vs asked.groups.now lives v f) 0)
    (sym c.deref.ensures.value) ∙ sym c.first_end.ensures ∙ c.in-Some.is)
    (subst (λ (steps : List Step). IsTrail steps c.in-Some.last c.in_ok-nodes.nodes.items) c.deref-2.ensures.value
    c.in_ok-nodes.ensures)
    (λ there at.
    c.group_told-group.ensures
    ∙ ap (λ (s : Step). group_told f.code v.number (option_and_then pending_in (cancel_class asked.groups.now s.class)))
    (same_Some c.index-step.result.now there
    (sym (slice_get_read c.in_ok-steps.steps.items (length c.in_ok-steps.steps.items) c.in-Some.last
    c.index-step.result.now refl
    (subst (λ (steps : List Step). c.in-Some.last < length steps) c.deref.ensures.value
    (first_within (is_end_step (events_graph asked.graph.now) vs asked.groups.now lives v f) c.deref.result.now
    c.in-Some.last (sym c.first_end.ensures ∙ c.in-Some.is)))
    c.index-step.ensures) ∙ at)))
