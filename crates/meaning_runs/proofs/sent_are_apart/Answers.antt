use Rattle.meaning_runs.proofs.GoneFunctions.{sent_are_apart}
use Rattle.meaning_runs.proofs.sent_are_apart.Goals as goal

pub returns : goal.returns
returns c = sent_are_apart
