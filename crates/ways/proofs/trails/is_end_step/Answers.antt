use Rattle.std.proofs.Common.{◌≡◌, Some, length, get_or, sym, ap, ◌∙◌, map}
use Rattle.std.proofs.lemmas.Option.{slice_get_read}
use Rattle.std.specs.Prelude.{slice_get}
use Rattle.events.specs.VariableViews.{variable_view}
use Rattle.path_faults.specs.FaultViews.{fault_view}
use Rattle.ways.proofs.AskedWays.{node_shown}
use Rattle.ways.specs.Found.{ends_at_node}
use Rattle.ways.proofs.trails.is_end_step.Goals as goal

pub returns : goal.returns
returns g c =
    let graph = c.args.graph.now in
    let place = c.args.step.node in
    let node = c.in-Some.node.now in
    let at = c.in-Some.ensures.lookup in
    let there : slice_get graph.nodes.items place ≡ Some node =
    slice_get_read graph.nodes.items (length c.deref.result.now) place node (ap length c.deref.ensures.value) at.3.0
    (at.1 ∙ ap (λ ns. get_or ns place node) c.deref.ensures.value) in
    c.is_at.ensures
    ∙ ap (ends_at_node (map variable_view c.args.end.now.variables.now) c.args.end.now.groups.now
    (g.L.Lives.lives c.args.end.now.live.now) (variable_view c.args.end.now.variable)
    (fault_view c.args.end.now.fault) place c.args.step.class) (sym (node_shown graph place node there))
