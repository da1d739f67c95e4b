use Rattle.accepting.proofs.NoMoreKeys.{no_more}
use Rattle.accepting.proofs.laws.baseline_accepts_no_more.Goals as goal

pub returns : goal.returns
returns c = no_more
