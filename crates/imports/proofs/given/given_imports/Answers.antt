use Rattle.std.proofs.Common.{◌≡◌, ℕ, List, IfOk, subst}
use Rattle.imports.specs.Views.{at_path, packages_view, rows_view}
use Rattle.imports.specs.Settling.{place_from}
use Rattle.imports.proofs.FirstPlaces.{same_places}
use Rattle.imports.proofs.given.given_imports.Goals as goal

pub returns : goal.returns
returns c =
    subst (λ (t : List (List ℕ)). IfOk c.found_imports.result (λ found. rows_view found.items ≡ t))
    (same_places (at_path c.in_ok-places.places) (λ path. place_from path (packages_view c.args.packages.now) 0)
    c.in_ok-places.ensures (packages_view c.args.packages.now))
    c.found_imports.ensures
