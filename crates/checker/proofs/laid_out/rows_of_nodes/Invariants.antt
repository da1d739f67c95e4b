use Rattle.checker.proofs.NodeRows.{RowsSoFar}
use Rattle.checker.proofs.laid_out.rows_of_nodes.Given as goal

abbrev pub invariant-loop-row : goal.invariant-loop-row
invariant-loop-row l = RowsSoFar l.nodes l.order l.row l.rows.items
