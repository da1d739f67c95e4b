use Rattle.meaning_runs.proofs.EntryPlaces.{entries_lie_in_files}
use Rattle.meaning_runs.proofs.entries_lie_in_files.Goals as goal

pub returns : goal.returns
returns c = entries_lie_in_files
