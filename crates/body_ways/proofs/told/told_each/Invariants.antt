use Rattle.std.proofs.Common.{◌↔◌, Contains, drop, map}
use Rattle.body_ways.proofs.ToldWays.{AreToldBut}
use Rattle.body_ways.specs.ToldViews.{told_fault_view}
use Rattle.meaning_packages.specs.PathFaults.{Paths, PathFault, IsPathFault}
use Rattle.path_faults.specs.FaultViews.{fault_view}
use Rattle.reasons.specs.WordViews.{branch_view}
use Rattle.ways.specs.Asked.{IsAsked}
use Rattle.body_ways.proofs.told.told_each.Given as goal

-- what is told is told as it is to be, and the faults that are not told are among those that are left
abbrev pub invariant-loop-fault : goal.invariant-loop-fault
invariant-loop-fault g l =
    (b : Paths) → IsAsked (λ p. g.P.Promises.promises p) (λ m. g.L.Lives.lives m) l.asked b
    → ((f : PathFault) → Contains (map fault_view l.faults) f ↔ IsPathFault b f)
    → AreToldBut b (map branch_view l.branches) (map fault_view (drop l.fault-index l.faults))
    (map told_fault_view l.told.items)
