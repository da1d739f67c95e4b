use Rattle.meaning.proofs.ObjectExamples.{kept_for_certain}
use Rattle.meaning.proofs.kept_for_certain.Goals as goal

pub returns : goal.returns
returns c = kept_for_certain
