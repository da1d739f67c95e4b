use Rattle.std.proofs.Common.{◌≡◌, drop}
use Rattle.imports.specs.Settling.{settled_all}
use Rattle.imports.specs.Views.{ranking_view}
use Rattle.imports.proofs.ranking.Ranking.settle_all.Given as goal

abbrev pub invariant-loop-place : goal.invariant-loop-place
invariant-loop-place l =
    settled_all (drop l.place-index l.packages) (ranking_view l.self)
    ≡ settled_all l.packages (ranking_view l.initial.self)
