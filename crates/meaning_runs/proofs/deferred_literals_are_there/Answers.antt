use Rattle.meaning_runs.proofs.DeferredLiterals.{deferred_literals_are_there}
use Rattle.meaning_runs.proofs.deferred_literals_are_there.Goals as goal

pub returns : goal.returns
returns c = deferred_literals_are_there
