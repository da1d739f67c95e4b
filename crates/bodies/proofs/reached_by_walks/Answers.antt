use Rattle.bodies.proofs.CarriedFlags.{reached_by_walks}
use Rattle.bodies.proofs.reached_by_walks.Goals as goal

pub returns : goal.returns
returns g c = reached_by_walks _ _
