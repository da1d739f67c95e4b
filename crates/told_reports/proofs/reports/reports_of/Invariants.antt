use Rattle.std.proofs.Common.{◌≡◌, ◌++◌, map}
use Rattle.all_packages.specs.Reports.{report_in}
use Rattle.told_reports.proofs.reports.reports_of.Given as goal

-- the reports so far, with those that are left, are all
abbrev pub invariant-loop-report : goal.invariant-loop-report
invariant-loop-report l =
    l.reports.items ++ map report_in l.report-iterator.rest.items ≡ map report_in l.fn.judged.items
