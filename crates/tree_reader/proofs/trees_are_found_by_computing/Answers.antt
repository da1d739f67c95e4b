use Rattle.tree_reader.proofs.ReadExamples.{computed_trees}
use Rattle.tree_reader.proofs.trees_are_found_by_computing.Goals as goal

pub returns : goal.returns
returns c = computed_trees
