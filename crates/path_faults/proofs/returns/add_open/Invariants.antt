use Rattle.std.proofs.Common.{◌≡◌, ◌++◌, drop, map}
use Rattle.tracked_rows.specs.EventViews.{handed_view}
use Rattle.meaning_packages.specs.PathFaults.{not_called}
use Rattle.events.specs.VariableViews.{variable_view}
use Rattle.path_faults.specs.FaultViews.{fault_view}
use Rattle.path_faults.specs.FoundFaults.{each_from, fault_of, returns_open}
use Rattle.path_faults.proofs.returns.add_open.Given as goal

-- what was added, with what is left, is the whole
abbrev pub invariant-loop-place : goal.invariant-loop-place
invariant-loop-place g l =
    let gives = fault_of (returns_open (g.A.Arrivals.cancels l.at.arrivals.now) l.at.node.node (map handed_view l.handed))
    l.at.node.at not_called in
    map fault_view l.faults.items ++ each_from gives l.place (map variable_view (drop l.place l.at.variables.now))
    ≡ map fault_view l.initial.faults.items ++ each_from gives 0 (map variable_view l.at.variables.now)
