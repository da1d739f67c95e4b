use Rattle.bodies.proofs.CarriedFlags.{reached_by_lists}
use Rattle.bodies.proofs.reached_by_lists.Goals as goal

pub returns : goal.returns
returns g c = reached_by_lists _ _
