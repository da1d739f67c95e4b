use Rattle.meaning.proofs.Conditions.{conditions_find_out}
use Rattle.meaning.proofs.conditions_find_out.Goals as goal

pub returns : goal.returns
returns c = conditions_find_out
