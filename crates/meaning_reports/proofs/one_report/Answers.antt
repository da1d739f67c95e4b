use Rattle.meaning_reports.proofs.OneReport.{one_report}
use Rattle.meaning_reports.proofs.one_report.Goals as goal

pub returns : goal.returns
returns c = one_report
