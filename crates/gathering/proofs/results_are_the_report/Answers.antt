use Rattle.gathering.proofs.Gathered.{results_are_the_report}
use Rattle.gathering.proofs.results_are_the_report.Goals as goal

pub returns : goal.returns
returns c = results_are_the_report
