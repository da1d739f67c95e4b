use Rattle.names.specs.Ordered.{locals_view, IsLink}
use Rattle.names.proofs.InnermostOf.{Linked}
use Rattle.names.proofs.innermost.links.Given as goal

abbrev pub invariant-loop-end : goal.invariant-loop-end
invariant-loop-end l = IsLink (locals_view l.ordered) l.index l.end

abbrev pub invariant-loop-index : goal.invariant-loop-index
invariant-loop-index l = Linked (locals_view l.ordered) l.links.items l.index

abbrev pub decreases-loop-end : goal.decreases-loop-end
decreases-loop-end l = l.end
