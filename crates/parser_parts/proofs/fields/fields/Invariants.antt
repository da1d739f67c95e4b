use Rattle.std.proofs.Common.{◌≡◌, ◌-◌, if◌then◌else◌}
use Rattle.tree.specs.View.{field_and}
use Rattle.meaning.specs.Grammar.{of_struct, of_interface}
use Rattle.tree_reader.specs.Reader.{read_fields}
use Rattle.tree_reader.specs.Reading.{steps}
use Rattle.parser_base.specs.Places.{cursor, parts_of, go_text}
use Rattle.parser_base.proofs.Growing.{after}
use Rattle.parser_parts.proofs.fields.fields.Given as goal

abbrev pub invariant-loop : goal.invariant-loop
invariant-loop g l =
    after field_and l.items.items (read_fields (go_text l.source) (parts_of l.source) (if l.is_struct then of_struct else of_interface) (l.end - l.counter) (cursor l.source l.rest)) ≡ read_fields (go_text l.source) (parts_of l.source) (if l.is_struct then of_struct else of_interface) (steps (cursor l.source l.fn.place)) (cursor l.source l.fn.place)
