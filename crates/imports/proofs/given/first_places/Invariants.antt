use Rattle.std.proofs.Common.{◌≡◌, ℕ, List, drop}
use Rattle.imports.specs.Settling.{place_from}
use Rattle.imports.specs.Views.{at_path, or_else, packages_view}
use Rattle.imports.proofs.given.first_places.Given as goal

abbrev pub invariant-loop-place : goal.invariant-loop-place
invariant-loop-place l =
    (path : List ℕ)
    → or_else (at_path l.places path) (place_from path (packages_view (drop l.place l.packages)) l.place)
    ≡ place_from path (packages_view l.packages) 0
