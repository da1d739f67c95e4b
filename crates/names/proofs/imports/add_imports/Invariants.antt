use Rattle.std.proofs.Common.{◌≡◌, ℕ, List, map, drop}
use Rattle.meaning.specs.OuterBlocks.{or_else, import_among}
use Rattle.names.specs.Answers.{names_by_path, text_at}
use Rattle.names.specs.Maps.{chosen_path}
use Rattle.tree.specs.View.{import_spec_syntax}
use Rattle.names.proofs.imports.add_imports.Given as goal

abbrev pub invariant-loop-spec : goal.invariant-loop-spec
invariant-loop-spec l =
    (n : List ℕ)
    → or_else (text_at l.imports n)
    (import_among (chosen_path l.only_first) (names_by_path l.packages) n (map import_spec_syntax (drop l.spec-index l.specs)))
    ≡ or_else (text_at l.initial.imports n)
    (import_among (chosen_path l.only_first) (names_by_path l.packages) n (map import_spec_syntax l.specs))
