use Rattle.std.proofs.Common.{◌≡◌, ◌++◌, drop, map}
use Rattle.meaning_packages.specs.PathFaults.{overwritten}
use Rattle.events.specs.VariableViews.{variable_view}
use Rattle.path_faults.specs.FaultViews.{fault_view}
use Rattle.path_faults.specs.FoundFaults.{each_from, fault_of, loses_cancel}
use Rattle.path_faults.proofs.bindings.add_binding.Given as goal

-- what was added, with what is left, is the whole
abbrev pub invariant-loop-place : goal.invariant-loop-place
invariant-loop-place g l =
    let gives = fault_of (loses_cancel (map variable_view l.at.variables.now) (g.A.Arrivals.cancels l.at.arrivals.now)
    (g.A.Arrivals.pending_groups l.at.arrivals.now) l.at.node.node l.bound.number) l.bound.at overwritten in
    map fault_view l.faults.items ++ each_from gives l.place (map variable_view (drop l.place l.at.variables.now))
    ≡ map fault_view l.initial.faults.items ++ each_from gives 0 (map variable_view l.at.variables.now)
