use Rattle.unit_reports.proofs.UnitSilence.{silent_units_are_yes}
use Rattle.unit_reports.proofs.laws.silent_units_are_yes.Goals as goal

pub returns : goal.returns
returns c = silent_units_are_yes
