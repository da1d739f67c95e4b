use Rattle.std.proofs.Common.{◌≡◌, ◌-◌}
use Rattle.tree_reader.specs.Reader.{read_imports}
use Rattle.tree_reader.specs.Reading.{steps}
use Rattle.parser_base.specs.Places.{cursor, go_text}
use Rattle.parser_base.proofs.Growing.{after}
use Rattle.parser.proofs.FileLists.{and_import}
use Rattle.parser.proofs.files.imports.Given as goal

abbrev pub invariant-loop : goal.invariant-loop
invariant-loop l =
    after and_import l.items.items (read_imports (go_text l.source) (l.end - l.counter) (cursor l.source l.rest)) ≡ read_imports (go_text l.source) (steps (cursor l.source l.fn.place)) (cursor l.source l.fn.place)
