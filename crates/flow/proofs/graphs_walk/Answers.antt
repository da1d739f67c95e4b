use Rattle.flow.proofs.WalksOfLists.{graphs_walk}
use Rattle.flow.proofs.graphs_walk.Goals as goal

pub returns : goal.returns
returns g c = graphs_walk _
