use Rattle.std.proofs.Common.{refl}
use Rattle.marks.proofs.rows.first_row.Goals as goal

pub returns-in-Some : goal.returns-in-Some
returns-in-Some c = rw (c.in-Some.is, ← c.deref.ensures) c.row_in.ensures

pub returns-in-None : goal.returns-in-None
returns-in-None c = rw c.in-None.is refl
