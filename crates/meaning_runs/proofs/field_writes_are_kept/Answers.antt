use Rattle.meaning_runs.proofs.FieldWrites.{field_writes_are_kept}
use Rattle.meaning_runs.proofs.field_writes_are_kept.Goals as goal

pub returns : goal.returns
returns c = field_writes_are_kept
