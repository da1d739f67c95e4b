use Rattle.std.proofs.Common.{◌≡◌, ◌-◌}
use Rattle.tree.specs.View.{parameter_and}
use Rattle.tree_reader.specs.Reader.{read_items}
use Rattle.tree_reader.specs.Reading.{steps}
use Rattle.parser_base.specs.Places.{cursor, parts_of, go_text}
use Rattle.parser_base.proofs.Growing.{after}
use Rattle.parser_parts.proofs.signatures.items.Given as goal

abbrev pub invariant-loop : goal.invariant-loop
invariant-loop g l =
    after parameter_and l.read.items (read_items (go_text l.source) (parts_of l.source) (l.end - l.counter) (cursor l.source l.rest)) ≡ read_items (go_text l.source) (parts_of l.source) (steps (cursor l.source l.fn.place)) (cursor l.source l.fn.place)
