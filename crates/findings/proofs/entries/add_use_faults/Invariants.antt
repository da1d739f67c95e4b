use Rattle.std.proofs.Common.{◌≡◌, ◌++◌, map, drop}
use Rattle.uses.specs.OutcomeViews.{fault_view}
use Rattle.findings.specs.FoundEntries.{use_entries}
use Rattle.report.specs.Entries.{entry_of}
use Rattle.findings.proofs.entries.add_use_faults.Given as goal

-- what was added, with what is left, is the whole
abbrev pub invariant-loop-fault : goal.invariant-loop-fault
invariant-loop-fault l =
    map entry_of l.diagnostics.items ++ use_entries l.file (map fault_view (drop l.fault-index l.faults))
    ≡ map entry_of l.initial.diagnostics.items ++ use_entries l.file (map fault_view l.faults)
