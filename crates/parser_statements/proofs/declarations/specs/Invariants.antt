use Rattle.std.proofs.Common.{◌≡◌, ◌-◌}
use Rattle.tree.specs.View.{spec_and}
use Rattle.tree_reader.specs.Reader.{read_specs}
use Rattle.tree_reader.specs.Reading.{steps}
use Rattle.parser_base.specs.Places.{cursor, parts_of, go_text}
use Rattle.parser_base.proofs.Growing.{after}
use Rattle.parser_statements.proofs.declarations.specs.Given as goal

abbrev pub invariant-loop : goal.invariant-loop
invariant-loop g l =
    after spec_and l.read.items
    (read_specs (go_text l.source) (parts_of l.source) l.keyword (l.end - l.counter) (cursor l.source l.rest))
    ≡ read_specs (go_text l.source) (parts_of l.source) l.keyword
    (steps (cursor l.source l.fn.place)) (cursor l.source l.fn.place)
