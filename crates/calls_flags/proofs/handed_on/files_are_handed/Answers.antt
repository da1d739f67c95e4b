use Rattle.calls_flags.proofs.FileHands.{are_handed}
use Rattle.calls_flags.proofs.handed_on.files_are_handed.Goals as goal

pub returns : goal.returns
returns c = are_handed
