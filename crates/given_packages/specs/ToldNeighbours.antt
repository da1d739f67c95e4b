-- What a package that is judged by itself is told of those that it imports, beside what is known of their functions,
-- and when that is right.
use Rattle.std.specs.Prelude.{ℕ, ◌≡◌, true, if◌then◌else◌, List, [], ◌∷◌, map, Contains, Option, None, Some, option_map, is_some, slice_get}
use Rattle.std.specs.Str.{bytes_eq}
use Rattle.imports.specs.Ranks.{Package}
use Rattle.imports.specs.Settling.{place_from}
use Rattle.imports.specs.Views.{at_path}
use Rattle.meaning.specs.OuterBlocks.{or_else}
use Rattle.names.specs.Answers.{names_by_path}
use Rattle.meaning_reports.specs.Loaded.{LoadedPackage, counts, import_list, imported_paths, package_names}
use Rattle.given_packages.specs.declared.told_neighbours.ImportedPackage.{ImportedPackage}
use Rattle.given_packages.specs.declared.told_neighbours.ToldNeighbours.{ToldNeighbours}

-- its path alone is known
abbrev pub item_of : ImportedPackage → Package
item_of one = record { path = one.path.now; imports = [] }

-- its name, if this is its path
abbrev pub name_if : ImportedPackage → List ℕ → Option (List ℕ)
name_if one path = if bytes_eq one.path.now path then option_map (λ name. name.now) one.name else None

abbrev pub name_told : List ImportedPackage → List ℕ → Option (List ℕ)
name_told [] path = None
name_told (one ∷ rest) path = or_else (name_if one path) (name_told rest path)

-- what is kept of them
pub record KeepsImported (imported : List ImportedPackage) (told : ToldNeighbours) : Type 0 where
  pub are_places : (path : List ℕ) → at_path told.places path ≡ place_from path (map item_of imported) 0
  pub are_counted : told.counted.items ≡ map (λ one. one.is_counted) imported
  pub are_names : (path : List ℕ) → names_by_path told.names path ≡ name_told imported path

-- it is right about the given package of its path
pub record IsRightAbout (ps : List LoadedPackage) (one : ImportedPackage) : Type 0 where
  pub place : ℕ
  pub is_place : place_from one.path.now (import_list ps) 0 ≡ Some place
  pub is_name : option_map (λ name. name.now) one.name ≡ package_names ps one.path.now
  pub is_counted : one.is_counted ≡ counts (slice_get ps place)

-- each of them is a given package, and each given one that the package imports is one of them
pub record AreImportsOf (ps : List LoadedPackage) (p : LoadedPackage) (imported : List ImportedPackage) : Type 0 where
  pub are_right : (one : ImportedPackage) → Contains imported one → IsRightAbout ps one
  pub are_all : (path : List ℕ)
      → Contains (imported_paths p) path
      → is_some (place_from path (import_list ps) 0) ≡ true
      → is_some (place_from path (map item_of imported) 0) ≡ true
