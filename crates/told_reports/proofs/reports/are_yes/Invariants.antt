use Rattle.std.proofs.Common.{◌≡◌, drop}
use Rattle.std.specs.List.{list_all}
use Rattle.one_package.specs.Judgments.{is_yes}
use Rattle.told_reports.proofs.reports.are_yes.Given as goal

-- the test of those that are left is that of all
abbrev pub invariant-loop-report : goal.invariant-loop-report
invariant-loop-report l = list_all is_yes (drop l.report-index l.reports) ≡ list_all is_yes l.reports
