use Rattle.gathering.proofs.Units.{units_are_the_report}
use Rattle.gathering.proofs.units_are_the_report.Goals as goal

pub returns : goal.returns
returns c = units_are_the_report
