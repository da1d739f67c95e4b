use Rattle.std.proofs.Common.{◌≡◌, ◌++◌, map, drop}
use Rattle.imports.specs.Views.{text_views}
use Rattle.meaning.specs.OuterBlocks.{specs_of}
use Rattle.tree.specs.View.{import_syntax}
use Rattle.whole_packages.proofs.imported.add_declarations.Given as goal

-- what was added, with what is left, is the whole
abbrev pub invariant-loop-declaration : goal.invariant-loop-declaration
invariant-loop-declaration l =
    text_views l.paths.items
    ++ map (λ s. s.path) (specs_of (map import_syntax (drop l.declaration-index l.declarations)))
    ≡ text_views l.initial.paths.items ++ map (λ s. s.path) (specs_of (map import_syntax l.declarations))
