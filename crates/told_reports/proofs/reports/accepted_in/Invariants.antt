use Rattle.std.proofs.Common.{◌≡◌, ◌≤◌, map, take}
use Rattle.accepting.specs.Findings.{finding_view}
use Rattle.told_reports.specs.Reports.{accepted_findings}
use Rattle.told_reports.proofs.reports.accepted_in.Given as goal

abbrev pub invariant-loop-finding : goal.invariant-loop-finding
invariant-loop-finding l =
    (l.count ≡ accepted_findings (map finding_view (take l.finding-index l.findings))) × (l.count ≤ l.finding-index)
