use Rattle.std.proofs.Common.{◌≡◌, drop}
use Rattle.std.specs.List.{list_any}
use Rattle.meaning.specs.Classes.{pending}
use Rattle.path_faults.proofs.answers.is_pending.Given as goal

-- the test of those that are left is that of all
abbrev pub invariant-loop-group : goal.invariant-loop-group
invariant-loop-group g l =
    list_any (λ k. g.A.Arrivals.cancels l.arrivals l.variable l.node (pending k)) (drop l.group-index l.group-items)
    ≡ list_any (λ k. g.A.Arrivals.cancels l.arrivals l.variable l.node (pending k)) l.group-items
