use Rattle.meaning_runs.proofs.TrackedBindings.{bindings_are_tracked}
use Rattle.meaning_runs.proofs.bindings_are_tracked.Goals as goal

pub returns : goal.returns
returns c = bindings_are_tracked
