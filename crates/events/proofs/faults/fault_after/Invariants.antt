use Rattle.std.proofs.Common.{◌≡◌, drop, map}
use Rattle.std.specs.List.{filter}
use Rattle.meaning.specs.BodyEvents.{fault_after}
use Rattle.events.specs.VariableViews.{variable_view, is_of_kind}
use Rattle.events.proofs.faults.fault_after.Given as goal

-- the fault of those that are left is that of all
abbrev pub invariant-loop-variable : goal.invariant-loop-variable
invariant-loop-variable l =
    fault_after l.left (filter (is_of_kind l.are_cancels) (map variable_view (drop l.variable-index l.variables)))
    ≡ fault_after l.most (filter (is_of_kind l.are_cancels) (map variable_view l.variables))
