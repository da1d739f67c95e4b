use Rattle.std.proofs.Common.{◌≡◌, ◌++◌, map, drop}
use Rattle.imports.specs.Views.{text_views}
use Rattle.tree.specs.View.{file_syntax}
use Rattle.plain_tables.specs.Tables.{declared_names}
use Rattle.plain_tables.proofs.tables.function_names.Given as goal

-- what was added, with what is left, is the whole
abbrev pub invariant-loop-tree : goal.invariant-loop-tree
invariant-loop-tree l =
    text_views l.names.items ++ declared_names (map file_syntax (drop l.tree-index l.trees))
    ≡ declared_names (map file_syntax l.trees)
