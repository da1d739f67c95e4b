use Rattle.reasons.proofs.AddedBranches.{alone}
use Rattle.reasons.proofs.branches.branches_of.Goals as goal

pub returns : goal.returns
returns c = alone _ _ _ c.new-branches.ensures.items c.in_ok-add_statements.ensures
