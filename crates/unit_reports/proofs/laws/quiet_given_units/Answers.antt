use Rattle.unit_reports.proofs.UnitYes.{quiet_given_units}
use Rattle.unit_reports.proofs.laws.quiet_given_units.Goals as goal

pub returns : goal.returns
returns c = quiet_given_units
