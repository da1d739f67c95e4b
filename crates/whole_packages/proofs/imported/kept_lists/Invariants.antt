use Rattle.std.proofs.Common.{◌≡◌, ◌++◌, map, drop}
use Rattle.imports.specs.Views.{packages_view}
use Rattle.whole_packages.specs.LoadedViews.{kept_list}
use Rattle.whole_packages.proofs.imported.kept_lists.Given as goal

-- what was listed, with what is left, is the whole
abbrev pub invariant-loop-loaded : goal.invariant-loop-loaded
invariant-loop-loaded l =
    packages_view l.lists.items ++ map kept_list (drop l.loaded-index l.packages) ≡ map kept_list l.packages
