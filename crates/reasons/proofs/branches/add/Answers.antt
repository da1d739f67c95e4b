use Rattle.reasons.proofs.AddedBranches.{adds_one}
use Rattle.reasons.proofs.branches.add.Goals as goal

pub returns : goal.returns
returns c = adds_one _ _ _ c.in_ok-push.ensures.items
