use Rattle.meaning_runs.proofs.OccurrencePlaces.{occurrences_lie_in_texts}
use Rattle.meaning_runs.proofs.occurrences_lie_in_texts.Goals as goal

pub returns : goal.returns
returns g c = occurrences_lie_in_texts _
