use Rattle.meaning.proofs.DelicateTrees.{delicate_trees}
use Rattle.meaning.proofs.delicate_trees_are_spelled.Goals as goal

pub returns : goal.returns
returns c = delicate_trees
