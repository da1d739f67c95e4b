use Rattle.std.proofs.Common.{◌≡◌, ◌++◌, map, drop}
use Rattle.std.specs.Prelude.{flat_map}
use Rattle.imports.specs.Views.{text_views}
use Rattle.tree.specs.View.{file_syntax}
use Rattle.meaning_reports.specs.Loaded.{imports_of}
use Rattle.whole_packages.proofs.imported.import_paths.Given as goal

-- what was added, with what is left, is the whole
abbrev pub invariant-loop-tree : goal.invariant-loop-tree
invariant-loop-tree l =
    text_views l.paths.items
    ++ flat_map (λ tree. map (λ s. s.path) (imports_of tree)) (map file_syntax (drop l.tree-index l.trees))
    ≡ flat_map (λ tree. map (λ s. s.path) (imports_of tree)) (map file_syntax l.trees)
