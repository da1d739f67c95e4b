use Rattle.std.proofs.Common.{◌≡◌, ◌++◌, drop}
use Rattle.package_pieces.specs.Numbers.{kept_numbers}
use Rattle.path_faults.specs.FoundFaults.{each_from}
use Rattle.package_pieces.proofs.numbers.numbers_kept.Given as goal

-- the numbers so far, with those of the files that are left, are all
abbrev pub invariant-loop-number : goal.invariant-loop-number
invariant-loop-number l =
    l.numbers.items ++ each_from kept_numbers l.number (drop l.number l.files) ≡ each_from kept_numbers 0 l.files
