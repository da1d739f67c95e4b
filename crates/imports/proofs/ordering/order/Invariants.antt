use Rattle.std.proofs.Common.{◌≤◌}
use Rattle.imports.specs.Settling.{given_imports}
use Rattle.imports.specs.Views.{packages_view, ranking_view}
use Rattle.imports.proofs.Settled.{Going, Turned}
use Rattle.imports.proofs.ordering.order.Given as goal

-- those before this place were settled
abbrev pub invariant-loop-place : goal.invariant-loop-place
invariant-loop-place l =
    Going (given_imports (packages_view l.packages)) 0 (λ i. l.place ≤ i) (ranking_view l.ranking)

-- who still waits waits for a package with this rank or a later one, or with none
abbrev pub invariant-loop-rank : goal.invariant-loop-rank
invariant-loop-rank l = Turned (given_imports (packages_view l.packages)) l.rank (ranking_view l.ranking)
