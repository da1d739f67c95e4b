use Rattle.std.proofs.Common.{◌≡◌, ◌-◌}
use Rattle.tree.specs.View.{expression_syntax}
use Rattle.tree_reader.specs.Reader.{read_suffixes}
use Rattle.tree_reader.specs.Reading.{steps}
use Rattle.parser_base.specs.Places.{cursor, parts_of, go_text}
use Rattle.parser_expressions.proofs.primaries.suffixes.Given as goal

abbrev pub invariant-loop : goal.invariant-loop
invariant-loop g l =
    read_suffixes (go_text l.source) (parts_of l.source) l.source.below l.header (cursor l.source l.fn.begun.from) (l.end - l.counter) (expression_syntax l.grown) (cursor l.source l.rest) ≡ read_suffixes (go_text l.source) (parts_of l.source) l.source.below l.header (cursor l.source l.fn.begun.from) (steps (cursor l.source l.fn.begun.place)) (expression_syntax l.fn.begun.first) (cursor l.source l.fn.begun.place)
