use Rattle.meaning_runs.proofs.StartedLiterals.{started_literals_are_there}
use Rattle.meaning_runs.proofs.started_literals_are_there.Goals as goal

pub returns : goal.returns
returns c = started_literals_are_there
