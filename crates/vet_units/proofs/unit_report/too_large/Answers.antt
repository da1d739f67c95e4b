use Rattle.std.proofs.Common.{inr, refl}
use Rattle.vet_units.proofs.unit_report.too_large.Goals as goal

pub returns-in-Ok : goal.returns-in-Ok
returns-in-Ok c = inr (c.in-Ok.path, refl, c.in-Ok.ensures)
