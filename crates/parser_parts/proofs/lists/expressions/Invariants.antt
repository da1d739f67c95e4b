use Rattle.std.proofs.Common.{◌≡◌, ◌-◌}
use Rattle.tree_reader.specs.Reader.{read_more_expressions, read_expressions}
use Rattle.parser_base.specs.Places.{cursor, parts_of, go_text}
use Rattle.parser_base.proofs.Growing.{after}
use Rattle.parser_parts.proofs.ExpressionLists.{and_expression}
use Rattle.parser_parts.proofs.lists.expressions.Given as goal

abbrev pub invariant-loop : goal.invariant-loop
invariant-loop g l =
    after and_expression l.items.items (read_more_expressions (go_text l.source) (parts_of l.source) l.header (l.end - l.counter) (cursor l.source l.rest)) ≡ read_expressions (go_text l.source) (parts_of l.source) l.header (cursor l.source l.fn.place)
