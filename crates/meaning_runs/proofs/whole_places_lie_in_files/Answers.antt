use Rattle.meaning_runs.proofs.FilePlaces.{whole_places_lie_in_files}
use Rattle.meaning_runs.proofs.whole_places_lie_in_files.Goals as goal

pub returns : goal.returns
returns c = whole_places_lie_in_files
