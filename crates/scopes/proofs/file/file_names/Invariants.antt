use Rattle.std.proofs.Common.{◌≡◌, ◌++◌, drop, map}
use Rattle.meaning.specs.Scopes.{top_levels_names}
use Rattle.scopes.specs.Views.{namings_view}
use Rattle.tree.specs.View.{top_level_syntax}
use Rattle.scopes.proofs.file.file_names.Given as goal

-- what was added with what the other declarations add is the whole
abbrev pub invariant-loop-declaration : goal.invariant-loop-declaration
invariant-loop-declaration l =
    namings_view l.namings.items ++ top_levels_names (map top_level_syntax (drop l.declaration-index l.declaration-items))
    ≡ top_levels_names (map top_level_syntax l.declaration-items)
