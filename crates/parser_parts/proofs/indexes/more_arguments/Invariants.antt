use Rattle.std.proofs.Common.{◌≡◌, ◌-◌}
use Rattle.tree_reader.specs.Reader.{read_more_arguments}
use Rattle.tree_reader.specs.Reading.{steps}
use Rattle.parser_base.specs.Places.{cursor, parts_of, go_text}
use Rattle.parser_base.proofs.Growing.{after, with_part}
use Rattle.parser_parts.proofs.ExpressionLists.{and_expression}
use Rattle.parser_parts.proofs.indexes.more_arguments.Given as goal

abbrev pub invariant-loop : goal.invariant-loop
invariant-loop g l =
    after and_expression l.items.items (read_more_arguments (go_text l.source) (parts_of l.source) (l.end - l.counter) (cursor l.source l.rest)) ≡ with_part and_expression l.fn.argument (read_more_arguments (go_text l.source) (parts_of l.source) (steps (cursor l.source l.fn.place)) (cursor l.source l.fn.place))
