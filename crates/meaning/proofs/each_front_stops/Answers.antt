use Rattle.meaning.proofs.Fronts.{each_front_stops}
use Rattle.meaning.proofs.each_front_stops.Goals as goal

pub returns : goal.returns
returns g c = each_front_stops _
