use Rattle.meaning_runs.proofs.LastReturns.{returns_are_last}
use Rattle.meaning_runs.proofs.returns_are_last.Goals as goal

pub returns : goal.returns
returns c = returns_are_last
