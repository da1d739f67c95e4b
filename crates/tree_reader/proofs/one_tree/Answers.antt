use Rattle.tree_reader.proofs.OneTree.{one_tree}
use Rattle.tree_reader.proofs.one_tree.Goals as goal

pub returns : goal.returns
returns c = one_tree
