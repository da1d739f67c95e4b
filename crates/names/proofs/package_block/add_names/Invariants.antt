use Rattle.std.proofs.Common.{◌≡◌, ℕ, List, map, drop}
use Rattle.meaning.specs.OuterBlocks.{or_else, names_at_package_level}
use Rattle.names.specs.Answers.{at_name}
use Rattle.names.specs.Maps.{is_function_in}
use Rattle.tree.specs.View.{identifier_syntax}
use Rattle.names.proofs.package_block.add_names.Given as goal

abbrev pub invariant-loop-name : goal.invariant-loop-name
invariant-loop-name l =
    (n : List ℕ)
    → or_else (at_name l.block n) (is_function_in (names_at_package_level (map identifier_syntax (drop l.name-index l.names))) n)
    ≡ or_else (at_name l.initial.block n) (is_function_in (names_at_package_level (map identifier_syntax l.names)) n)
