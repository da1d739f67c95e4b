use Rattle.calls_flags.proofs.UsedPackages.{is_used_so}
use Rattle.calls_flags.proofs.handed_on.handed_is_used.Goals as goal

pub returns : goal.returns
returns c = is_used_so
