use Rattle.judge.proofs.OneReport.{given_packages_have_one_report}
use Rattle.judge.proofs.laws.given_packages_have_one_report.Goals as goal

pub returns : goal.returns
returns c = given_packages_have_one_report
