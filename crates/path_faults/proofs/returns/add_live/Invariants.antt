use Rattle.std.proofs.Common.{◌≡◌, ◌++◌, drop, map}
use Rattle.meaning_packages.specs.PathFaults.{group_is_live}
use Rattle.events.specs.VariableViews.{variable_view}
use Rattle.path_faults.specs.FaultViews.{fault_view}
use Rattle.path_faults.specs.FoundFaults.{each_from, fault_of, returns_live}
use Rattle.path_faults.proofs.returns.add_live.Given as goal

-- what was added, with what is left, is the whole
abbrev pub invariant-loop-place : goal.invariant-loop-place
invariant-loop-place g l =
    let gives = fault_of (returns_live (g.A.Arrivals.groups l.at.arrivals.now) l.at.node.node) l.at.node.at group_is_live in
    map fault_view l.faults.items ++ each_from gives l.place (map variable_view (drop l.place l.at.variables.now))
    ≡ map fault_view l.initial.faults.items ++ each_from gives 0 (map variable_view l.at.variables.now)
