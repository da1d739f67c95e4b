use Rattle.std.proofs.Common.{◌≤◌, length, map, subst, sym}
use Rattle.bodies.proofs.Solved.{classes, classes_at_nodes}
use Rattle.bodies.proofs.solution.solve.Goals as goal
use Rattle.bodies.specs.States.{Fit}
use Rattle.bodies.specs.declared.state.StateVariables.{StateVariables}
use Rattle.events.specs.VariableViews.{variable_view}

pub returns : goal.returns
returns g c =
    let promises = g.P.Promises.promises c.args.promises.now in
    let graph = c.args.graph.now in
    let views = map variable_view c.args.variables.now in
    let places = c.in_ok-places.places in
    let placed = c.in_ok-places.ensures.placed in
    let kept : StateVariables = record {
      cancels = c.deref.result;
      groups = c.deref-2.result;
      pending = c.deref-3.result;
    } in
    let fits : Fit kept = record {
      cancels = subst (λ ns. length ns ≤ 48) (sym c.deref.ensures.value) placed.cancels_fit;
      groups = subst (λ ns. length ns ≤ 12) (sym c.deref-2.ensures.value) placed.groups_fit;
      pending = subst (λ ns. length ns ≤ 12) (sym c.deref-3.ensures.value) placed.groups_fit;
    } in
    record {
      classes = λ code is_graph have.
          classes promises graph views places kept fits c.deref.ensures.value c.deref-2.ensures.value
          c.deref-3.ensures.value c.in_ok-states.states.items c.in_ok-states.ensures placed
          c.in_ok-places.ensures.all code is_graph have;
      nodes = λ code is_graph have.
          classes_at_nodes promises graph views places kept fits c.deref.ensures.value c.deref-2.ensures.value
          c.deref-3.ensures.value c.in_ok-states.states.items c.in_ok-states.ensures placed
          c.in_ok-places.ensures.all code is_graph have;
    }
