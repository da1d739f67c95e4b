use Rattle.unit_reports.proofs.UnitYes.{yes_units_are_quiet}
use Rattle.unit_reports.proofs.laws.yes_units_are_quiet.Goals as goal

pub returns : goal.returns
returns c = yes_units_are_quiet
