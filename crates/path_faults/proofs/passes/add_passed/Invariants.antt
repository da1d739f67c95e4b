use Rattle.std.proofs.Common.{◌≡◌, ◌++◌, drop, map}
use Rattle.meaning_packages.specs.PathFaults.{passed_on}
use Rattle.events.specs.VariableViews.{variable_view}
use Rattle.path_faults.specs.FaultViews.{fault_view}
use Rattle.path_faults.specs.FoundFaults.{each_from, fault_of, is_passed}
use Rattle.path_faults.proofs.passes.add_passed.Given as goal

-- what was added, with what is left, is the whole
abbrev pub invariant-loop-variable : goal.invariant-loop-variable
invariant-loop-variable l =
    let gives = fault_of (is_passed l.passed.number) l.passed.at passed_on in
    map fault_view l.faults.items
    ++ each_from gives l.variable-index (map variable_view (drop l.variable-index l.variables))
    ≡ map fault_view l.initial.faults.items ++ each_from gives 0 (map variable_view l.variables)
