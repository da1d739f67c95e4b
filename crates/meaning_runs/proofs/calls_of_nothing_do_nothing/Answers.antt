use Rattle.meaning_runs.proofs.NothingCalled.{calls_of_nothing_do_nothing}
use Rattle.meaning_runs.proofs.calls_of_nothing_do_nothing.Goals as goal

pub returns : goal.returns
returns c = calls_of_nothing_do_nothing
