use Rattle.std.proofs.Common.{◌≡◌, ◌-◌, ◌++◌}
use Rattle.package_pieces.specs.Numbers.{numbers_from}
use Rattle.package_pieces.proofs.numbers.add_numbers.Given as goal

-- the numbers so far, with those that are left, are those before and all that are added
abbrev pub invariant-loop-body : goal.invariant-loop-body
invariant-loop-body l =
    l.numbers.items ++ numbers_from l.file l.body (l.count - l.body)
    ≡ l.initial.numbers.items ++ numbers_from l.file 0 l.count
