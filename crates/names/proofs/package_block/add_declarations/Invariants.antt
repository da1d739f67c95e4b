use Rattle.std.proofs.Common.{◌≡◌, ℕ, List, map, drop}
use Rattle.meaning.specs.OuterBlocks.{or_else, declarations_at_package_level}
use Rattle.names.specs.Answers.{at_name}
use Rattle.names.specs.Maps.{is_function_in}
use Rattle.tree.specs.View.{top_level_syntax}
use Rattle.names.proofs.package_block.add_declarations.Given as goal

abbrev pub invariant-loop-declaration : goal.invariant-loop-declaration
invariant-loop-declaration l =
    (n : List ℕ)
    → or_else (at_name l.block n)
    (is_function_in (declarations_at_package_level (map top_level_syntax (drop l.declaration-index l.declarations))) n)
    ≡ or_else (at_name l.initial.block n)
    (is_function_in (declarations_at_package_level (map top_level_syntax l.declarations)) n)
