use Rattle.std.proofs.Common.{◌≡◌, ◌≤◌, ◌-◌, ◌++◌, List, drop, length, map}
use Rattle.report.specs.Entries.{entry_of}
use Rattle.accepting.specs.Findings.{FindingEntry, finding_view, plain_finding}
use Rattle.accepting.specs.Merged.{told_before}
use Rattle.accepting.proofs.merged.add_before.Given as goal

-- what was added, with what is left, is the whole, whatever follows
abbrev pub invariant-rest : goal.invariant-rest
invariant-rest l = record {
  within : l.place ≤ length l.stale;
  told : (follow : List FindingEntry → List FindingEntry)
      → map finding_view l.told.items ++ told_before (entry_of l.next) follow (map plain_finding (drop l.place l.stale))
      ≡ map finding_view l.initial.told.items
      ++ told_before (entry_of l.next) follow (map plain_finding (drop l.passed l.stale));
}

abbrev pub decreases-rest : goal.decreases-rest
decreases-rest l = length l.stale - l.place
