use Rattle.accepting.proofs.VerdictsSay.{yes_says}
use Rattle.accepting.proofs.laws.yes_says_none.Goals as goal

pub returns : goal.returns
returns c = yes_says
