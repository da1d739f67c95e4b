use Rattle.meaning.proofs.KeptLaws.{kept_is_owed}
use Rattle.meaning.proofs.kept_is_owed.Goals as goal

pub returns : goal.returns
returns c = kept_is_owed
