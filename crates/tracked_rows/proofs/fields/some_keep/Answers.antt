use Rattle.tracked_rows.proofs.KeepingFields.{some_names}
use Rattle.tracked_rows.proofs.fields.some_keep.Goals as goal

pub returns-in-These : goal.returns-in-These
returns-in-These c = rw c.in-These.is (some_names c.in-These.keeping.now _ c.is_empty.ensures)
