use Rattle.std.proofs.Common.{◌≡◌, ℕ, ◌++◌, drop, map, nat_eq}
use Rattle.uses.specs.OutcomeViews.{fault_view}
use Rattle.events.specs.ToldViews.{faults_at, if_there}
use Rattle.events.proofs.told.add_inner_faults.Given as goal

-- what was added, with what is left, is the whole
abbrev pub invariant-loop-fault : goal.invariant-loop-fault
invariant-loop-fault l =
    (b : ℕ) → faults_at l.faults b ++ if_there (nat_eq l.body b) (map fault_view (drop l.fault-index l.fresh))
    ≡ faults_at l.initial.faults b ++ if_there (nat_eq l.body b) (map fault_view l.fresh)
