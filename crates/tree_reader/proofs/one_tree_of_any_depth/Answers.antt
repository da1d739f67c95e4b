use Rattle.tree_reader.proofs.OneTree.{one_tree_of_any_depth}
use Rattle.tree_reader.proofs.one_tree_of_any_depth.Goals as goal

pub returns : goal.returns
returns c = one_tree_of_any_depth
