use Rattle.std.proofs.Common.{◌≡◌, ◌++◌, drop, map}
use Rattle.uses.specs.OutcomeViews.{fault_view}
use Rattle.events.proofs.faults.body_faults.Given as goal

-- what was added, with what is left, is the whole
abbrev pub invariant-loop-fault : goal.invariant-loop-fault
invariant-loop-fault l =
    map fault_view l.faults.items ++ map fault_view (drop l.fault-index l.fault-items) ≡ map fault_view l.fault-items
