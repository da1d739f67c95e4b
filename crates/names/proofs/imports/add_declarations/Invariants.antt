use Rattle.std.proofs.Common.{◌≡◌, ℕ, List, map, drop}
use Rattle.meaning.specs.OuterBlocks.{or_else, import_among, specs_of}
use Rattle.names.specs.Answers.{names_by_path, text_at}
use Rattle.names.specs.Maps.{chosen_path}
use Rattle.tree.specs.View.{import_syntax}
use Rattle.names.proofs.imports.add_declarations.Given as goal

abbrev pub invariant-loop-declaration : goal.invariant-loop-declaration
invariant-loop-declaration l =
    (n : List ℕ)
    → or_else (text_at l.imports n)
    (import_among (chosen_path l.only_first) (names_by_path l.packages) n
    (specs_of (map import_syntax (drop l.declaration-index l.declarations))))
    ≡ or_else (text_at l.initial.imports n)
    (import_among (chosen_path l.only_first) (names_by_path l.packages) n (specs_of (map import_syntax l.declarations)))
