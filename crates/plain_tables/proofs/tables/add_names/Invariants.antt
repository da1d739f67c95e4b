use Rattle.std.proofs.Common.{◌≡◌, ◌++◌, map, drop}
use Rattle.std.specs.Prelude.{flat_map}
use Rattle.imports.specs.Views.{text_views}
use Rattle.tree.specs.View.{top_level_syntax}
use Rattle.plain_tables.specs.Tables.{declared_name}
use Rattle.plain_tables.proofs.tables.add_names.Given as goal

-- what was added, with what is left, is the whole
abbrev pub invariant-loop-declaration : goal.invariant-loop-declaration
invariant-loop-declaration l =
    text_views l.names.items
    ++ flat_map declared_name (map top_level_syntax (drop l.declaration-index l.declarations))
    ≡ text_views l.initial.names.items ++ flat_map declared_name (map top_level_syntax l.declarations)
