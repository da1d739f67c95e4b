use Rattle.meaning.proofs.RefusedTrees.{refused_trees}
use Rattle.meaning.proofs.other_trees_are_not.Goals as goal

pub returns : goal.returns
returns c = refused_trees
