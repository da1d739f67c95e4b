use Rattle.gathering.proofs.Results.{what_follows_is_a_result}
use Rattle.gathering.proofs.what_follows_is_a_result.Goals as goal

pub returns : goal.returns
returns c = what_follows_is_a_result
