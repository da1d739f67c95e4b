use Rattle.std.proofs.Common.{◌≡◌, ◌++◌, drop, map}
use Rattle.imports.specs.Settling.{places_of}
use Rattle.imports.specs.Views.{at_path, packages_view, rows_view}
use Rattle.imports.proofs.given.found_imports.Given as goal

abbrev pub invariant-loop-list : goal.invariant-loop-list
invariant-loop-list l =
    rows_view l.found.items ++ map (places_of (at_path l.places)) (packages_view (drop l.list-index l.packages))
    ≡ map (places_of (at_path l.places)) (packages_view l.packages)
