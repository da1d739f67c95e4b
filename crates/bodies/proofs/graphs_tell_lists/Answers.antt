use Rattle.bodies.proofs.ListsOfGraphs.{graphs_tell_lists}
use Rattle.bodies.proofs.graphs_tell_lists.Goals as goal

pub returns : goal.returns
returns c = graphs_tell_lists
