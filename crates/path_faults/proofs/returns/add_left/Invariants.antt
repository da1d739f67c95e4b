use Rattle.std.proofs.Common.{◌≡◌, ◌++◌, drop, map}
use Rattle.tracked_rows.specs.EventViews.{handed_view}
use Rattle.meaning_packages.specs.PathFaults.{left_to_live_group}
use Rattle.events.specs.VariableViews.{variable_view}
use Rattle.path_faults.specs.FaultViews.{fault_view}
use Rattle.path_faults.specs.FoundFaults.{each_from, fault_of, returns_left}
use Rattle.path_faults.proofs.returns.add_left.Given as goal

-- what was added, with what is left, is the whole
abbrev pub invariant-loop-place : goal.invariant-loop-place
invariant-loop-place g l =
    let gives = fault_of (returns_left (map variable_view l.at.variables.now) (g.A.Arrivals.cancels l.at.arrivals.now)
    (g.L.Lives.lives l.at.live.now l.at.node) l.at.node.node (map handed_view l.handed)) l.at.node.at left_to_live_group in
    map fault_view l.faults.items ++ each_from gives l.place (map variable_view (drop l.place l.at.variables.now))
    ≡ map fault_view l.initial.faults.items ++ each_from gives 0 (map variable_view l.at.variables.now)
