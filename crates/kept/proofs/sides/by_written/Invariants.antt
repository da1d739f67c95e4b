use Rattle.std.proofs.Common.{◌≡◌, ℕ, ◌++◌, drop, map}
use Rattle.std.specs.Prelude.{◌==◌}
use Rattle.std.specs.List.{filter}
use Rattle.kept.specs.KeptViews.{write_view, writes_at}
use Rattle.kept.proofs.sides.by_written.Given as goal

-- what was added, with what is left, is the whole
abbrev pub invariant-loop-write : goal.invariant-loop-write
invariant-loop-write l =
    (n : ℕ)
    → writes_at l.lists n ++ filter (λ w. w.object == n) (map write_view (drop l.write-index l.writes))
    ≡ filter (λ w. w.object == n) (map write_view l.writes)
