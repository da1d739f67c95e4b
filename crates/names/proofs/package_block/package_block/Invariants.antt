use Rattle.std.proofs.Common.{◌≡◌, ℕ, List, map, drop}
use Rattle.meaning.specs.OuterBlocks.{or_else, package_block}
use Rattle.names.specs.Answers.{at_name}
use Rattle.names.specs.Maps.{is_function_in}
use Rattle.tree.specs.View.{file_syntax}
use Rattle.names.proofs.package_block.package_block.Given as goal

abbrev pub invariant-loop-file : goal.invariant-loop-file
invariant-loop-file l =
    (n : List ℕ)
    → or_else (at_name l.block n) (is_function_in (package_block (map file_syntax (drop l.file-index l.files))) n)
    ≡ is_function_in (package_block (map file_syntax l.files)) n
