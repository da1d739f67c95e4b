use Rattle.meaning_runs.proofs.SeenStays.{called_for_stays}
use Rattle.meaning_runs.proofs.called_for_stays.Goals as goal

pub returns : goal.returns
returns c = called_for_stays
