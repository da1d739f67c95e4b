use Rattle.std.proofs.Common.{◌≡◌, ◌-◌}
use Rattle.tree_reader.specs.Reader.{read_arguments}
use Rattle.tree_reader.specs.Reading.{steps}
use Rattle.parser_base.specs.Places.{cursor, parts_of, go_text}
use Rattle.parser_base.proofs.Growing.{after}
use Rattle.parser_parts.proofs.ElementLists.{and_argument}
use Rattle.parser_parts.proofs.lists.arguments.Given as goal

abbrev pub invariant-loop : goal.invariant-loop
invariant-loop g l =
    after and_argument l.items.items (read_arguments (go_text l.source) (parts_of l.source) (l.end - l.counter) (cursor l.source l.rest)) ≡ read_arguments (go_text l.source) (parts_of l.source) (steps (cursor l.source l.fn.place)) (cursor l.source l.fn.place)
