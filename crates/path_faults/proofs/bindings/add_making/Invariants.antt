use Rattle.std.proofs.Common.{◌≡◌, ◌++◌, drop, map}
use Rattle.meaning_packages.specs.PathFaults.{group_overwritten}
use Rattle.events.specs.VariableViews.{variable_view}
use Rattle.path_faults.specs.FaultViews.{fault_view}
use Rattle.path_faults.specs.FoundFaults.{each_from, fault_of, loses_group}
use Rattle.path_faults.proofs.bindings.add_making.Given as goal

-- what was added, with what is left, is the whole
abbrev pub invariant-loop-place : goal.invariant-loop-place
invariant-loop-place g l =
    let gives = fault_of (loses_group (g.A.Arrivals.groups l.at.arrivals.now) l.at.node.node l.made.number) l.made.at
    group_overwritten in
    map fault_view l.faults.items ++ each_from gives l.place (map variable_view (drop l.place l.at.variables.now))
    ≡ map fault_view l.initial.faults.items ++ each_from gives 0 (map variable_view l.at.variables.now)
