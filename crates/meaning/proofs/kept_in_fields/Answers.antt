use Rattle.meaning.proofs.KeptExamples.{kept_in_fields}
use Rattle.meaning.proofs.kept_in_fields.Goals as goal

pub returns : goal.returns
returns c = kept_in_fields
