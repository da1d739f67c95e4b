use Rattle.std.proofs.Common.{map, sym, ap, ◌∙◌, subst}
use Rattle.std.proofs.lemmas.Result.{IfOk-weaker}
use Rattle.std.specs.Prelude.{◌↔◌, Contains, List}
use Rattle.bodies.specs.NodeEvents.{events_graph}
use Rattle.bodies.specs.OwnGroups.{groups_of}
use Rattle.bodies.specs.Solutions.{cancel_arrives, group_arrives}
use Rattle.body_ways.proofs.AskedBodies.{have_places, its_promises}
use Rattle.body_ways.proofs.LivePlaces.{lives_told}
use Rattle.body_ways.specs.BodyWays.{AreToldWays}
use Rattle.body_ways.specs.ToldViews.{told_fault_view}
use Rattle.credits.specs.CreditViews.{has}
use Rattle.events.specs.VariableViews.{variable_view}
use Rattle.meaning.specs.Mentions.{BodyPlace}
use Rattle.meaning_packages.specs.Credits.{promises_in}
use Rattle.meaning_packages.specs.PathFaults.{PathFault, paths_of, IsPathFault}
use Rattle.path_faults.specs.FaultViews.{fault_view}
use Rattle.path_faults.specs.LiveViews.{has_live}
use Rattle.path_faults.specs.declared.fault.PathFault.{PathFault as KeptFault}
use Rattle.reasons.specs.Branches.{branches_of}
use Rattle.reasons.specs.WordViews.{branch_view}
use Rattle.body_ways.proofs.told.told_faults.Goals as goal

pub returns : goal.returns
returns g c =
    IfOk-weaker c.told_each.result _ _
    (λ told are file seen b tells is_kept.
    let calls = g.C.Calls.are_called c.args.calls.now in
    let credits = has c.args.credits.now in
    let body = c.args.body.now in
    let kept = c.args.kept.now in
    let paths = paths_of seen (promises_in calls credits b.at) b in
    let solution = c.in_ok-solution.solution in
    let found = c.in_ok-solution.ensures.paths file seen b tells is_kept in
    let variables = ap (map variable_view) c.deref-2.ensures.value ∙ sym found.are_variables in
    subst (λ bs. AreToldWays paths bs (map told_fault_view told.items)) (ap (λ (p : BodyPlace). branches_of p.statements) tells.is_place)
    (subst (λ bs. AreToldWays paths bs (map told_fault_view told.items))
    (ap (map branch_view) c.deref-6.ensures.value ∙ c.in_ok-branches.ensures)
    (are paths
    record {
      is_graph = found.is_graph;
      are_variables = found.are_variables ∙ ap (map variable_view) (sym c.deref-4.ensures.value);
      are_promises = its_promises file seen b body tells calls credits;
      have_places = have_places file seen b body tells kept is_kept;
      are_groups = c.deref-5.ensures.value ∙ c.in_ok-groups.ensures
          ∙ ap groups_of (ap (map variable_view) c.deref-3.ensures.value ∙ sym found.are_variables);
      tells_lives = lives_told paths (cancel_arrives solution) (group_arrives solution) found.classifies
          (map variable_view c.deref-2.result.now) variables (events_graph kept.graph).nodes
          (ap (λ h. h.nodes) found.is_graph) (has_live c.in_ok-live.live) c.in_ok-live.ensures;
    }
    (subst (λ (fs : List KeptFault). (f : PathFault) → Contains (map fault_view fs) f ↔ IsPathFault paths f)
    (sym c.deref-7.ensures.value)
    (c.in_ok-faults.ensures paths found.is_graph (found.are_variables ∙ ap (map variable_view) (sym c.deref.ensures.value))
    found.classifies)))))
    c.told_each.ensures
