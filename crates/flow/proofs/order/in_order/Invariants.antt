use Rattle.std.proofs.Common.{◌≡◌, ◌++◌, drop}
use Rattle.flow.specs.GraphViews.{occurrences_of}
use Rattle.flow.specs.NodeOrder.{places}
use Rattle.flow.proofs.order.in_order.Given as goal

abbrev pub invariant-loop-node : goal.invariant-loop-node
invariant-loop-node g l =
    l.ordered.items ++ places l.node (occurrences_of (drop l.node l.kept-items))
    ≡ places 0 (occurrences_of l.kept-items)
