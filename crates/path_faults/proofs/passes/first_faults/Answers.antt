use Rattle.std.proofs.Common.{map, ap, sym, ◌∙◌}
use Rattle.std.proofs.lemmas.List.{at_drop_all}
use Rattle.events.proofs.Grown.{grown}
use Rattle.events.specs.ToldViews.{events_of_site}
use Rattle.events.specs.VariableViews.{variable_view}
use Rattle.path_faults.specs.FaultViews.{fault_view}
use Rattle.path_faults.specs.FoundFaults.{found_pass_faults}
use Rattle.path_faults.proofs.Passed.{views, passes_are}
use Rattle.path_faults.proofs.passes.first_faults.Goals as goal

pub returns : goal.returns
returns g c = λ seen tells b is_first same_events same_variables same_promises.
    let vs = map variable_view c.args.variables.now in
    let p = g.P.Promises.promises c.args.promises.now in
    passes_are vs p c.at-event-items.result.now (map fault_view c.loop-event.faults.items)
    (grown (map fault_view c.loop-event.faults.items) _ _
    (at_drop_all (λ es. found_pass_faults vs p (views es)) c.at-event-items.result.now c.loop-event.event-index
    c.loop-event-test.false) c.loop-event.invariant)
    b is_first
    (λ at. ap (λ h. h at) same_events ∙ sym (tells.events c.args.body at)
    ∙ ap (events_of_site at) (sym c.at-event-items.ensures))
    same_variables same_promises
