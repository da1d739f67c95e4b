use Rattle.std.proofs.Common.{◌≡◌, ◌≤◌, map, take}
use Rattle.accepting.specs.Findings.{finding_view}
use Rattle.told_reports.specs.Reports.{open_findings}
use Rattle.told_reports.proofs.reports.open_in.Given as goal

abbrev pub invariant-loop-finding : goal.invariant-loop-finding
invariant-loop-finding l =
    (l.count ≡ open_findings (map finding_view (take l.finding-index l.findings))) × (l.count ≤ l.finding-index)
