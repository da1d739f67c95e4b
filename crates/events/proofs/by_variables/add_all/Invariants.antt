use Rattle.std.proofs.Common.{◌≡◌, ◌++◌, drop, map}
use Rattle.uses.specs.OutcomeViews.{fault_view}
use Rattle.events.specs.ToldViews.{faults_of_jumps}
use Rattle.events.proofs.by_variables.add_all.Given as goal

-- what was added, with what is left, is the whole
abbrev pub invariant-loop-at : goal.invariant-loop-at
invariant-loop-at l =
    map fault_view l.faults.items ++ faults_of_jumps (drop l.at-index l.jumps)
    ≡ map fault_view l.initial.faults.items ++ faults_of_jumps l.jumps
