use Rattle.std.proofs.Common.{◌≡◌, ◌≤◌, take}
use Rattle.std.specs.Prelude.{count_by}
use Rattle.accepting.specs.Findings.{found_view}
use Rattle.told_reports.specs.Reports.{is_told_accepted, is_told_yes}
use Rattle.told_reports.proofs.reports.verdicts_of.Given as goal

abbrev pub invariant-loop-package : goal.invariant-loop-package
invariant-loop-package l =
    (l.yes ≡ count_by (λ p. is_told_yes (found_view p)) (take l.package-index l.found))
    × (l.yes ≤ l.package-index)
    × (l.accepted ≡ count_by (λ p. is_told_accepted (found_view p)) (take l.package-index l.found))
    × (l.accepted ≤ l.package-index)
