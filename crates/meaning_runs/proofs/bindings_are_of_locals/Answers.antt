use Rattle.meaning_runs.proofs.Bindings.{bindings_are_of_locals}
use Rattle.meaning_runs.proofs.bindings_are_of_locals.Goals as goal

pub returns : goal.returns
returns c = bindings_are_of_locals
