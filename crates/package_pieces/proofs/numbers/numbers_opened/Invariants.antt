use Rattle.std.proofs.Common.{◌≡◌, ◌++◌, drop}
use Rattle.package_pieces.specs.Numbers.{opened_numbers}
use Rattle.path_faults.specs.FoundFaults.{each_from}
use Rattle.package_pieces.proofs.numbers.numbers_opened.Given as goal

-- the numbers so far, with those of the files that are left, are all
abbrev pub invariant-loop-number : goal.invariant-loop-number
invariant-loop-number l =
    l.numbers.items ++ each_from opened_numbers l.number (drop l.number l.files) ≡ each_from opened_numbers 0 l.files
