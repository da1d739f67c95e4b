use Rattle.accepting.proofs.VerdictsSay.{accepted_says}
use Rattle.accepting.proofs.laws.accepted_says_all.Goals as goal

pub returns : goal.returns
returns c = accepted_says
