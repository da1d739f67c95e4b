use Rattle.std.proofs.Common.{◌-◌}
use Rattle.flow.specs.GraphViews.{graph_view}
use Rattle.searches.proofs.Searches.{IsSoFar}
use Rattle.searches.specs.Searching.{left_of}
use Rattle.searches.proofs.search.search_graph.Given as goal

-- of the steps that were followed everything that follows is there
abbrev pub invariant-loop-search : goal.invariant-loop-search
invariant-loop-search g l = IsSoFar (graph_view l.graph) (g.C.Carry.step l.carry) l.entry l.search

-- each turn follows one step more, and there are no more than there are pairs
abbrev pub decreases-loop-search : goal.decreases-loop-search
decreases-loop-search g l = left_of l.search - l.search.followed
