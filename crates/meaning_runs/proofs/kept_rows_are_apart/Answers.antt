use Rattle.meaning_runs.proofs.FieldWrites.{kept_rows_are_apart}
use Rattle.meaning_runs.proofs.kept_rows_are_apart.Goals as goal

pub returns : goal.returns
returns c = kept_rows_are_apart
