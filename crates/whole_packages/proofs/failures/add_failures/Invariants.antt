use Rattle.std.proofs.Common.{◌≡◌, ◌++◌, map, drop}
use Rattle.whole_packages.specs.WholeEntries.{failures_from}
use Rattle.report.specs.Entries.{entry_of}
use Rattle.whole_packages.proofs.failures.add_failures.Given as goal

-- what was added, with what is left, is the whole
abbrev pub invariant-loop-file : goal.invariant-loop-file
invariant-loop-file l =
    map entry_of l.diagnostics.items ++ failures_from l.file (drop l.file l.readings)
    ≡ map entry_of l.initial.diagnostics.items ++ failures_from 0 l.readings
