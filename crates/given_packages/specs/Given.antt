-- What is known of the given packages before one is judged.
use Rattle.std.specs.Prelude.{ℕ, ◌≡◌, ◌↔◌, true, if◌then◌else◌, List, [], ◌∷◌, map, Option, None, Some, slice_get, string_bytes}
use Rattle.std.specs.Str.{bytes_eq}
use Rattle.meaning.specs.OuterBlocks.{or_else}
use Rattle.tree.specs.View.{file_syntax}
use Rattle.imports.specs.Ranks.{IsOrder}
use Rattle.imports.specs.Settling.{given_imports, place_from}
use Rattle.imports.specs.Views.{at_path, packages_view, rank_of, ranked_of, rows_view}
use Rattle.declared_tables.specs.DeclaredTables.{declared_view}
use Rattle.declared_tables.specs.MarkedGivers.{AllMarkGivers}
use Rattle.names.specs.Answers.{names_by_path}
use Rattle.whole_packages.specs.declared.loaded_package.LoadedPackage.{LoadedPackage as KeptPackage}
use Rattle.whole_packages.specs.CountedViews.{kept_counts}
use Rattle.whole_packages.specs.LoadedViews.{TellPackages}
use Rattle.whole_packages.specs.WholeEntries.{is_marked, IsUnranked}
use Rattle.meaning_reports.specs.Loaded.{LoadedPackage, Tables, counts, import_list, name_in, package_names}
use Rattle.meaning_reports.specs.WholeFaults.{IsWholeFault}
use Rattle.report.specs.Entries.{Entry}
use Rattle.given_packages.specs.declared.given.Given.{Given}

-- the path is that of a given package that has a fault as a whole
pub record IsFaulty (ps : List LoadedPackage) (path : List ℕ) : Type 0 where
  pub place : ℕ
  pub entry : Entry
  pub is_place : place_from path (import_list ps) 0 ≡ Some place
  pub is_fault : IsWholeFault ps place entry

-- what is given is those packages, what is known of them, and what is declared of others
pub record TellsGiven (declared : Tables) (ps : List LoadedPackage) (given : Given) : Type 0 where
  pub tell : TellPackages ps given.packages.now
  pub are_lists : packages_view given.lists.items ≡ import_list ps
  pub are_imports : rows_view given.imports.items ≡ given_imports (import_list ps)
  pub is_ranked : IsOrder (import_list ps) (rank_of given.order) (ranked_of given.order)
  pub are_places : (path : List ℕ) → at_path given.places path ≡ place_from path (import_list ps) 0
  pub are_unranked : (path : List ℕ)
      → (is_marked (at_path given.places) given.unranked.items path ≡ true) ↔ IsUnranked ps path
  pub are_faulty : (path : List ℕ)
      → (is_marked (at_path given.places) given.faulty.items path ≡ true) ↔ IsFaulty ps path
  pub are_counted : (path : List ℕ) (j : ℕ)
      → place_from path (import_list ps) 0 ≡ Some j
      → is_marked (at_path given.places) given.counted.items path ≡ counts (slice_get ps j)
  pub are_names : (path : List ℕ) → names_by_path given.names path ≡ package_names ps path
  pub are_declared : (path : List ℕ) → declared_view given.declared path ≡ declared path
  pub are_marked : AllMarkGivers given.declared

-- Names

abbrev pub first_name : KeptPackage → List ℕ → Option (List ℕ)
first_name k path = if bytes_eq (string_bytes k.path) path then name_in (map file_syntax k.trees.items) else None

abbrev pub kept_name : KeptPackage → List ℕ → Option (List ℕ)
kept_name k path = if kept_counts k then first_name k path else None

abbrev pub names_from : List KeptPackage → List ℕ → Option (List ℕ)
names_from [] path = None
names_from (k ∷ ks) path = or_else (kept_name k path) (names_from ks path)
