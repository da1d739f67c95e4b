use Rattle.std.proofs.Common.{◌≡◌, ◌-◌}
use Rattle.tree_reader.specs.Reader.{read_top_levels}
use Rattle.tree_reader.specs.Reading.{steps}
use Rattle.parser_base.specs.Places.{cursor, go_text}
use Rattle.parser_base.proofs.Growing.{after}
use Rattle.parser.proofs.FileLists.{and_top_level}
use Rattle.parser.proofs.files.top_levels.Given as goal

abbrev pub invariant-loop : goal.invariant-loop
invariant-loop g l =
    after and_top_level l.items.items (read_top_levels (go_text l.source) (l.end - l.counter) (cursor l.source l.rest)) ≡ read_top_levels (go_text l.source) (steps (cursor l.source l.fn.place)) (cursor l.source l.fn.place)
