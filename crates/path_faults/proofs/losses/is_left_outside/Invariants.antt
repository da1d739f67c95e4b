use Rattle.std.proofs.Common.{◌≡◌, drop, map}
use Rattle.events.specs.VariableViews.{variable_view}
use Rattle.path_faults.specs.FoundFaults.{is_left_outside}
use Rattle.path_faults.proofs.losses.is_left_outside.Given as goal

-- the test of those that are left is that of all
abbrev pub invariant-loop-group : goal.invariant-loop-group
invariant-loop-group g l =
    is_left_outside (map variable_view l.variables) (g.A.Arrivals.cancels l.arrivals l.variable l.node)
    (drop l.group-index l.group-items)
    ≡ is_left_outside (map variable_view l.variables) (g.A.Arrivals.cancels l.arrivals l.variable l.node) l.group-items
