use Rattle.std.proofs.Common.{◌≡◌, ◌++◌, drop, map}
use Rattle.package_pieces.specs.Found.{outer_entries}
use Rattle.path_faults.specs.FoundFaults.{each_from}
use Rattle.report.specs.Entries.{entry_of}
use Rattle.package_pieces.proofs.solving.add_outer.Given as goal

-- what was added, with what the files say that are left, is all
abbrev pub invariant-loop-number : goal.invariant-loop-number
invariant-loop-number l =
    map entry_of l.found.items ++ each_from outer_entries l.number (drop l.number l.files)
    ≡ map entry_of l.initial.found.items ++ each_from outer_entries 0 l.files
