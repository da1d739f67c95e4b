-- What is known of the packages around one before it is judged, and what it has to be right about: the packages that
-- it imports, as far as they are given, and what is declared of others. So it may be told in a run of all packages, or
-- to a package that is judged by itself.
use Rattle.std.specs.Prelude.{ℕ, ◌≡◌, Bool, List, Contains, Option, Some, is_some, slice_get}
use Rattle.declared_tables.specs.declared.tables.PackageTable.{PackageTable as KeptTable}
use Rattle.declared_tables.specs.DeclaredTables.{table_if_any}
use Rattle.declared_tables.specs.MarkedGivers.{MarksGivers}
use Rattle.first_values.specs.ValuesByName.{value_of}
use Rattle.imports.specs.Settling.{place_from}
use Rattle.imports.specs.Views.{at_path}
use Rattle.names.specs.Answers.{names_by_path}
use Rattle.whole_packages.specs.WholeEntries.{is_marked, PicksUnranked}
use Rattle.meaning_reports.specs.Loaded.{LoadedPackage, Tables, counts, import_list, imported_paths, package_names}
use Rattle.given_packages.specs.declared.given.Given.{Given}
use Rattle.given_packages.specs.declared.nearby.Neighbours.{Neighbours}

-- the places of given packages, and what is known of these by their places
pub record Nearby : Type 0 where
  pub places : List ℕ → Option ℕ
  pub unranked : List Bool
  pub counted : List Bool
  pub names : List ℕ → Option (List ℕ)
  pub declared : List ℕ → Option KeptTable

abbrev pub nearby_view : Neighbours → Nearby
nearby_view near = record {
  places = at_path near.places.now;
  unranked = near.unranked.now;
  counted = near.counted.now;
  names = names_by_path near.names.now;
  declared = value_of near.declared.now.packages;
}

-- what is known of all given packages
abbrev pub nearby_in : Given → Nearby
nearby_in given = record {
  places = at_path given.places;
  unranked = given.unranked.items;
  counted = given.counted.items;
  names = names_by_path given.names;
  declared = value_of given.declared.packages;
}

-- of the given packages that the package imports those are picked, by their paths, that count as given
abbrev pub PicksCounted : List LoadedPackage → LoadedPackage → (List ℕ → Bool) → Type 0
PicksCounted ps p picked = (path : List ℕ) (j : ℕ)
    → Contains (imported_paths p) path
    → place_from path (import_list ps) 0 ≡ Some j
    → picked path ≡ counts (slice_get ps j)

-- it is right about what the package imports, and about what is declared
pub record TellsNearby (declared : Tables) (ps : List LoadedPackage) (p : LoadedPackage) (near : Nearby) : Type 0 where
  pub are_given : (path : List ℕ)
      → Contains (imported_paths p) path
      → is_some (near.places path) ≡ is_some (place_from path (import_list ps) 0)
  pub are_unranked : PicksUnranked ps p (is_marked near.places near.unranked)
  pub are_counted : PicksCounted ps p (is_marked near.places near.counted)
  pub are_names : (path : List ℕ) → Contains (imported_paths p) path → near.names path ≡ package_names ps path
  pub are_declared : (path : List ℕ) → table_if_any (near.declared path) ≡ declared path
  pub are_marked : (path : List ℕ) (t : KeptTable) → near.declared path ≡ Some t → MarksGivers t
