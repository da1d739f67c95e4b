use Rattle.std.proofs.Common.{◌≡◌, drop}
use Rattle.std.specs.List.{list_all}
use Rattle.accepting.specs.Findings.{found_view}
use Rattle.told_reports.specs.Reports.{package_passes}
use Rattle.told_reports.proofs.reports.pass.Given as goal

-- the test of those that are left is that of all
abbrev pub invariant-loop-package : goal.invariant-loop-package
invariant-loop-package l =
    list_all (λ p. package_passes (found_view p)) (drop l.package-index l.found)
    ≡ list_all (λ p. package_passes (found_view p)) l.found
