use Rattle.accepting.proofs.NothingLost.{nothing_lost}
use Rattle.accepting.proofs.laws.nothing_is_lost.Goals as goal

pub returns : goal.returns
returns c = nothing_lost
