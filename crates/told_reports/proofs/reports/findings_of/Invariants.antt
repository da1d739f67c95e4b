use Rattle.std.proofs.Common.{◌≡◌, take}
use Rattle.std.specs.Prelude.{min, sum_by}
use Rattle.accepting.specs.Findings.{found_view}
use Rattle.told_reports.specs.Reports.{accepted_findings, most_findings, open_findings}
use Rattle.told_reports.proofs.reports.findings_of.Given as goal

abbrev pub invariant-loop-package : goal.invariant-loop-package
invariant-loop-package l =
    (l.accepted ≡ min (sum_by (λ p. accepted_findings (found_view p).findings) (take l.package-index l.found)) most_findings)
    × (l.open ≡ min (sum_by (λ p. open_findings (found_view p).findings) (take l.package-index l.found)) most_findings)
