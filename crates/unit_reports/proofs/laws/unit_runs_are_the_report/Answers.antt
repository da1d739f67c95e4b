use Rattle.unit_reports.proofs.UnitLaws.{unit_runs_are_the_report}
use Rattle.unit_reports.proofs.laws.unit_runs_are_the_report.Goals as goal

pub returns : goal.returns
returns c = unit_runs_are_the_report
