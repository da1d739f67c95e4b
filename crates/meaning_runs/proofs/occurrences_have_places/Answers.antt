use Rattle.meaning_runs.proofs.OccurrencePlaces.{occurrences_have_places}
use Rattle.meaning_runs.proofs.occurrences_have_places.Goals as goal

pub returns : goal.returns
returns g c = occurrences_have_places _
