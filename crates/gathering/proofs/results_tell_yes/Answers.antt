use Rattle.gathering.proofs.Results.{results_tell_yes}
use Rattle.gathering.proofs.results_tell_yes.Goals as goal

pub returns : goal.returns
returns c = results_tell_yes
