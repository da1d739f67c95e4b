use Rattle.meaning_runs.proofs.FreeGoroutines.{the_environment_may}
use Rattle.meaning_runs.proofs.the_environment_may.Goals as goal

pub returns : goal.returns
returns c = the_environment_may
