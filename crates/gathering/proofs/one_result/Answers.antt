use Rattle.gathering.proofs.Gathered.{one_result}
use Rattle.gathering.proofs.one_result.Goals as goal

pub returns : goal.returns
returns c = one_result
