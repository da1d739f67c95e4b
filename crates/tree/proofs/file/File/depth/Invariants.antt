use Rattle.std.proofs.Common.{◌≡◌, ℕ, List, max, map, drop}
use Rattle.tree.specs.declared.file.TopLevelDecl.{TopLevelDecl}
use Rattle.tree.specs.Depth.{top_levels_depth}
use Rattle.tree.specs.View.{top_level_syntax}
use Rattle.tree.proofs.Depths.{capped}
use Rattle.tree.proofs.file.File.depth.Given as goal

abbrev pub at_declarations : List TopLevelDecl → ℕ
at_declarations ds = capped (top_levels_depth (map top_level_syntax ds))

-- the deepest of the declarations so far and of the rest is the deepest of all
abbrev pub invariant-loop-declaration : goal.invariant-loop-declaration
invariant-loop-declaration l = max l.depth (at_declarations (drop l.declaration-index l.declaration-items)) ≡ at_declarations l.declaration-items
