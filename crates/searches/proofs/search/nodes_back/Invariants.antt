use Rattle.searches.proofs.Trails.{IsLeft, turns_left}
use Rattle.searches.proofs.search.nodes_back.Given as goal

-- with what stands before the next step the nodes are the trail
abbrev pub invariant-loop-next : goal.invariant-loop-next
invariant-loop-next l = IsLeft l.steps l.last l.nodes.items l.next

-- each step stands behind the one before it
abbrev pub decreases-loop-next : goal.decreases-loop-next
decreases-loop-next l = turns_left l.next
