use Rattle.std.proofs.Common.{◌≡◌, ◌++◌, drop}
use Rattle.std.specs.List.{filter}
use Rattle.credits.specs.ReliedOn.{is_unbound}
use Rattle.credits.proofs.relied.unbound.Given as goal

-- those so far, with those of the numbers that are left, are those of all
abbrev pub invariant-loop-number : goal.invariant-loop-number
invariant-loop-number l =
    l.left.items ++ filter (is_unbound l.bound) (drop l.number-index l.numbers) ≡ filter (is_unbound l.bound) l.numbers
