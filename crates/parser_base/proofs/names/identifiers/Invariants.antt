use Rattle.std.proofs.Common.{◌≡◌, ◌-◌, map}
use Rattle.tree.specs.View.{identifier_syntax}
use Rattle.tree_reader.specs.Reading.{read_more_identifiers, read_identifiers}
use Rattle.parser_base.specs.Places.{cursor, go_text}
use Rattle.parser_base.proofs.Rounds.{after_front}
use Rattle.parser_base.proofs.names.identifiers.Given as goal

abbrev pub invariant-loop : goal.invariant-loop
invariant-loop l =
    after_front (map identifier_syntax l.names.items) (read_more_identifiers (go_text l.source) (l.end - l.counter) (cursor l.source l.rest)) ≡ read_identifiers (go_text l.source) (cursor l.source l.fn.place)
