use Rattle.meaning_runs.proofs.FieldRuns.{field_returns_exist}
use Rattle.meaning_runs.proofs.field_returns_exist.Goals as goal

pub returns : goal.returns
returns c = field_returns_exist
