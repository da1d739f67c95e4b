use Rattle.meaning_runs.proofs.FreeGoroutines.{goroutines_are_free}
use Rattle.meaning_runs.proofs.goroutines_are_free.Goals as goal

pub returns : goal.returns
returns c = goroutines_are_free
