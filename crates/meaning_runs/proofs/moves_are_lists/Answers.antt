use Rattle.meaning_runs.proofs.Simulation.{moves_are_lists}
use Rattle.meaning_runs.proofs.moves_are_lists.Goals as goal

pub returns : goal.returns
returns g c = moves_are_lists _
