use Rattle.std.proofs.Common.{◌≡◌, drop}
use Rattle.std.specs.Prelude.{◌==◌}
use Rattle.std.specs.List.{list_any}
use Rattle.keeping.proofs.cancels.has.Given as goal

-- the test of those that are left is that of all
abbrev pub invariant-loop-other : goal.invariant-loop-other
invariant-loop-other l =
    list_any (λ n. n == l.number) (drop l.other-index l.numbers) ≡ list_any (λ n. n == l.number) l.numbers
