use Rattle.std.proofs.Common.{◌≡◌, map, drop}
use Rattle.std.specs.List.{list_any}
use Rattle.meaning.specs.OuterBlocks.{specs_of}
use Rattle.tree.specs.View.{import_syntax}
use Rattle.files_to_walk.proofs.skipping.any_import.Given as goal

-- the test of those that are left is that of all
abbrev pub invariant-loop-declaration : goal.invariant-loop-declaration
invariant-loop-declaration g l =
    list_any (λ s. g.A.Among.among l.packages s.path) (specs_of (map import_syntax (drop l.declaration-index l.declarations)))
    ≡ list_any (λ s. g.A.Among.among l.packages s.path) (specs_of (map import_syntax l.declarations))
