use Rattle.searches.proofs.Depths.{searches_find_nearest}
use Rattle.searches.proofs.searches_find_nearest.Goals as goal

pub returns : goal.returns
returns g c = searches_find_nearest _
