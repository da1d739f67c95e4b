use Rattle.std.proofs.Common.{◌≡◌, ◌-◌, map}
use Rattle.tree.specs.View.{import_spec_syntax}
use Rattle.tree_reader.specs.Reader.{read_import_specs}
use Rattle.tree_reader.specs.Reading.{steps}
use Rattle.parser_base.specs.Places.{cursor, go_text}
use Rattle.parser_base.proofs.Rounds.{after_front}
use Rattle.parser_base.proofs.declarations.import_specs.Given as goal

abbrev pub invariant-loop : goal.invariant-loop
invariant-loop l =
    after_front (map import_spec_syntax l.specs.items) (read_import_specs (go_text l.source) (l.end - l.counter) (cursor l.source l.rest)) ≡ read_import_specs (go_text l.source) (steps (cursor l.source l.fn.place)) (cursor l.source l.fn.place)
