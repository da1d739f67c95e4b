use Rattle.tree.specs.View.{expressions_syntax}
use Rattle.tree_reader.specs.Reader.{as_identifiers}
use Rattle.parser_clauses.proofs.SimpleParts.{Completes}
use Rattle.parser_clauses.proofs.simple.names_of.Given as goal

abbrev pub invariant-loop-item : goal.invariant-loop-item
invariant-loop-item l = Completes l.names.items l.left.items (as_identifiers (expressions_syntax l.fn.list.items))

abbrev pub decreases-loop-item : goal.decreases-loop-item
decreases-loop-item l = l.left.len
