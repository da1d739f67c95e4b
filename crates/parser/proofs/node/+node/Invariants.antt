-- Each node reads its parts from a source that is one less deep; a closure stands between the two.
use Rattle.std.proofs.Common.{◌+◌, ◌*◌}
use Rattle.parser.proofs.node.+node.Given as goal

abbrev pub decreases-node-parts : goal.decreases-node-parts
decreases-node-parts l = 2 * l.inner.below + 1

abbrev pub decreases-node-statements : goal.decreases-node-statements
decreases-node-statements l = 2 * l.inner.below + 1

abbrev pub decreases-statement_node-parts : goal.decreases-statement_node-parts
decreases-statement_node-parts l = 2 * l.inner.below + 1

abbrev pub decreases-statement_node-statements : goal.decreases-statement_node-statements
decreases-statement_node-statements l = 2 * l.inner.below + 1

abbrev pub decreases-node : goal.decreases-node
decreases-node l = 2 * l.source.below

abbrev pub decreases-statement_node : goal.decreases-statement_node
decreases-statement_node l = 2 * l.source.below
