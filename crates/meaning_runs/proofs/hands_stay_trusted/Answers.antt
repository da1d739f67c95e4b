use Rattle.meaning_runs.proofs.HandedNames.{hands_stay_trusted}
use Rattle.meaning_runs.proofs.hands_stay_trusted.Goals as goal

pub returns : goal.returns
returns c = hands_stay_trusted
