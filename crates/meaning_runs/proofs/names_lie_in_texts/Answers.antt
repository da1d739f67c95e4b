use Rattle.meaning_runs.proofs.NamePlaces.{names_lie_in_texts}
use Rattle.meaning_runs.proofs.names_lie_in_texts.Goals as goal

pub returns : goal.returns
returns c = names_lie_in_texts
