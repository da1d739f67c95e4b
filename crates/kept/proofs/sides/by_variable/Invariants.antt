use Rattle.std.proofs.Common.{◌≡◌, ℕ, ◌++◌, drop, map}
use Rattle.std.specs.Prelude.{◌==◌}
use Rattle.std.specs.List.{filter}
use Rattle.kept.specs.KeptViews.{keep_view, keeps_at}
use Rattle.kept.proofs.sides.by_variable.Given as goal

-- what was added, with what is left, is the whole
abbrev pub invariant-loop-keep : goal.invariant-loop-keep
invariant-loop-keep l =
    (n : ℕ)
    → keeps_at l.lists n ++ filter (λ k. k.variable == n) (map keep_view (drop l.keep-index l.keeps))
    ≡ filter (λ k. k.variable == n) (map keep_view l.keeps)
