use Rattle.meaning_runs.proofs.DeferredLiterals.{gone_literals_are_there}
use Rattle.meaning_runs.proofs.gone_literals_are_there.Goals as goal

pub returns : goal.returns
returns c = gone_literals_are_there
