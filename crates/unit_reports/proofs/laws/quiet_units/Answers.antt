use Rattle.unit_reports.proofs.UnitYes.{quiet_units}
use Rattle.unit_reports.proofs.laws.quiet_units.Goals as goal

pub returns : goal.returns
returns c = quiet_units
