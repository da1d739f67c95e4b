use Rattle.std.proofs.Common.{◌≡◌, ◌++◌, drop, map}
use Rattle.events.specs.VariableViews.{variable_view}
use Rattle.path_faults.specs.FaultViews.{fault_view}
use Rattle.path_faults.specs.FoundFaults.{found_pass_faults}
use Rattle.path_faults.proofs.Passed.{views}
use Rattle.path_faults.proofs.passes.first_faults.Given as goal

-- what was added, with what is left, is the whole
abbrev pub invariant-loop-event : goal.invariant-loop-event
invariant-loop-event g l =
    map fault_view l.faults.items
    ++ found_pass_faults (map variable_view l.variables) (g.P.Promises.promises l.promises)
    (views (drop l.event-index l.event-items))
    ≡ found_pass_faults (map variable_view l.variables) (g.P.Promises.promises l.promises) (views l.event-items)
