use Rattle.meaning_runs.proofs.FieldsTold.{fields_are_told}
use Rattle.meaning_runs.proofs.fields_are_told.Goals as goal

pub returns : goal.returns
returns c = fields_are_told
