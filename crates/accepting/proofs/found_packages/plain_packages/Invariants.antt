use Rattle.std.proofs.Common.{◌≡◌, ◌++◌, drop, map}
use Rattle.accepting.specs.Findings.{found_view, plain_package}
use Rattle.accepting.proofs.found_packages.plain_packages.Given as goal

-- the packages so far, with those that are left, are all
abbrev pub invariant-loop-report : goal.invariant-loop-report
invariant-loop-report l =
    map found_view l.found.items ++ map plain_package (drop l.report-index l.reports)
    ≡ map plain_package l.reports
