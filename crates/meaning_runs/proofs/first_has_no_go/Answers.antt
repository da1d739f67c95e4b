use Rattle.meaning_runs.proofs.FirstEdition.{first_has_no_go}
use Rattle.meaning_runs.proofs.first_has_no_go.Goals as goal

pub returns : goal.returns
returns c = first_has_no_go
