-- What serves the proofs: what is read of the packages that one imports which is judged by itself.
use Rattle.std.specs.Prelude.{ℕ, ◌≡◌, if◌then◌else◌, Bool, List, [], ◌∷◌, ◌++◌, None, Some, map, option_map, slice_get}
use Rattle.std.specs.List.{list_any, AllZip}
use Rattle.std.specs.Str.{bytes_eq}
use Rattle.declared_json.specs.DeclaredPackages.{PackageEntry}
use Rattle.declared_tables.specs.DeclaredTables.{declared_view, table_view}
use Rattle.declared_tables.specs.MarkedGivers.{AllMarkGivers, MarksGivers}
use Rattle.declared_tables.specs.declared.tables.DeclaredTables.{DeclaredTables}
use Rattle.explanations.specs.Units.{NotesFollow}
use Rattle.first_values.specs.ValuesByName.{only_at}
use Rattle.gathering.specs.Results.{FollowsFromTold, Tellings}
use Rattle.imports.specs.Ranks.{HasRank, Package}
use Rattle.imports.specs.Views.{text_views}
use Rattle.unit_reports.specs.declared.units.ImportedUnit.{ImportedUnit}
use Rattle.unit_reports.specs.declared.units.ReadImport.{ReadImport}
use Rattle.unit_reports.specs.declared.units.ReadImports.{ReadImports}
use Rattle.unit_reports.specs.declared.units.ToldUnit.{ToldUnit}
use Rattle.told_reports.specs.declared.unit.UnitForm.{UnitForm}
use Rattle.unit_reports.specs.Units.{IsJudgedByTold, IsUnitText, NotesFollowFromTold, counts_so, kept_of, name_if_any}
use Rattle.meaning.specs.OuterBlocks.{or_else}
use Rattle.meaning_reports.specs.Loaded.{LoadedPackage, Tables, import_list, imported_paths}
use Rattle.meaning_reports.specs.PackageReports.{by_paths}
use Rattle.given_packages.specs.Given.{TellsGiven}
use Rattle.one_package.specs.Judgments.{TellsSources, said_view}
use Rattle.given_packages.specs.Neighbours.{Nearby, TellsNearby}
use Rattle.one_package.specs.Results.{AreTold, KeptTold, KnowsAll, KnowsTold, ToldImports, tellings_by_path}
use Rattle.given_packages.specs.ToldNeighbours.{AreImportsOf}
use Rattle.given_packages.specs.declared.given.Given.{Given}
use Rattle.one_package.specs.declared.known_imports.KnownImports.{KnownImports}
use Rattle.given_packages.specs.declared.told_neighbours.ImportedPackage.{ImportedPackage}
use Rattle.report.specs.declared.notes.ExplainedPackage.{ExplainedPackage}
use Rattle.vetx_tables.specs.KeptTables.{table_again}
use Rattle.whole_packages.specs.LoadedViews.{TellsPackage}
use Rattle.whole_packages.specs.declared.loaded_package.LoadedPackage.{LoadedPackage as KeptPackage}

-- it is what was kept of that package, which counts as given or not
pub record IsReadAs (counted : Bool) (one : ImportedUnit) (read : ReadImport) : Type 0 where
  pub is_path : read.imported.path.now ≡ one.path.now
  pub is_name :
      option_map (λ name. name.now) read.imported.name ≡ (if counted then name_if_any (kept_of one).name else None)
  pub is_counted : read.imported.is_counted ≡ counted
  pub is_table : table_view read.table ≡ table_again (if counted then (kept_of one).functions else [])
  pub is_marked : MarksGivers read.table
  pub is_yes : read.is_yes ≡ (kept_of one).is_yes

abbrev pub IsReadOf : ImportedUnit → ReadImport → Type 0
IsReadOf one read = IsReadAs (counts_so (kept_of one)) one read

-- the imports of the first of these
abbrev pub first_imports : List Package → List (List ℕ)
first_imports [] = []
first_imports (p ∷ ps) = p.imports

-- the path is one of these
abbrev pub is_named : List (List ℕ) → List ℕ → Bool
is_named paths path = list_any (λ q. bytes_eq q path) paths

-- those of these paths
abbrev pub named_among : List (List ℕ) → List ImportedUnit → List ImportedUnit
named_among paths [] = []
named_among paths (one ∷ rest) =
    if is_named paths one.path.now then one ∷ named_among paths rest else named_among paths rest

-- these were read so far, and with those that are left they are all
pub record AreReadSoFar (paths : List (List ℕ)) (left all : List ImportedUnit) (read : List ReadImport) : Type 0 where
  pub done : List ImportedUnit
  pub complete : done ++ named_among paths left ≡ named_among paths all
  pub are_read : AllZip IsReadOf done read

abbrev pub package_in : ReadImport → ImportedPackage
package_in read = read.imported

abbrev pub told_in : ReadImport → KeptTold
told_in read = record { table = read.table; is_yes = read.is_yes }

-- what is told of each path by these
abbrev pub told_by_read : List ReadImport → ToldImports
told_by_read [] path = None
told_by_read (one ∷ rest) path = or_else (only_at one.imported.path.now (told_in one) path) (told_by_read rest path)

-- what is told so far is known, and with what is left it is all
pub record KnowsReadSoFar (left all : List ReadImport) (known : KnownImports) : Type 0 where
  pub told : ToldImports
  pub complete : (path : List ℕ) → or_else (told path) (told_by_read left path) ≡ told_by_read all path
  pub knows : KnowsTold told known

-- What is said by what was read

-- by what is near a package, and by what is known of its imports, this is right of these packages
pub record IsNearAmong
    (declared : Tables) (ps : List LoadedPackage) (i : ℕ) (p : LoadedPackage) (told : ToldImports)
    (kept : KeptPackage) (near : Nearby) (known : KnownImports)
    : Type 0 where
  pub is_near : TellsNearby declared ps p near
  pub is_there : slice_get ps i ≡ Some p
  pub tells : TellsPackage p kept
  pub is_known : KnowsAll near (imported_paths p) told known
  pub are_told : AreTold ps i told

abbrev pub NotesByNear : KeptPackage → Nearby → KnownImports → ExplainedPackage → Type 0
NotesByNear kept near known e =
    (declared : Tables) (ps : List LoadedPackage) (i : ℕ) (p : LoadedPackage) (told : ToldImports)
    → IsNearAmong declared ps i p told kept near known
    → NotesFollow declared ps i p (tellings_by_path ps told) e

-- what is said by them
pub record SaysByNear
    (form : UnitForm) (kept : KeptPackage) (near : Nearby) (known : KnownImports) (unit : ToldUnit)
    : Type 0 where
  pub tells : TellsSources kept unit.judged
  pub follows : (declared : Tables) (ps : List LoadedPackage) (i : ℕ) (p : LoadedPackage) (told : ToldImports)
      → IsNearAmong declared ps i p told kept near known
      → FollowsFromTold (by_paths declared) ps i p (tellings_by_path ps told) (said_view unit.judged)
  pub is_text : IsUnitText form unit.judged (NotesByNear kept near known) unit.text.items

-- what was read of imports, and what is declared, is right of these packages
pub record IsReadAmong
    (tables : Tables) (ps : List LoadedPackage) (i : ℕ) (p : LoadedPackage) (kept : KeptPackage)
    (imports : ReadImports) (declared : DeclaredTables)
    : Type 0 where
  pub are_declared : (path : List ℕ) → declared_view declared path ≡ tables path
  pub are_marked : AllMarkGivers declared
  pub is_there : slice_get ps i ≡ Some p
  pub tells : TellsPackage p kept
  pub rank : HasRank (import_list ps) i
  pub are_paths : text_views imports.paths.items ≡ imported_paths p
  pub are_imports : AreImportsOf ps p (map package_in imports.read.items)
  pub are_told : AreTold ps i (told_by_read imports.read.items)

abbrev pub tellings_by_read : List LoadedPackage → ReadImports → Tellings
tellings_by_read ps imports = tellings_by_path ps (told_by_read imports.read.items)

abbrev pub NotesByRead : KeptPackage → ReadImports → DeclaredTables → ExplainedPackage → Type 0
NotesByRead kept imports declared e = (tables : Tables) (ps : List LoadedPackage) (i : ℕ) (p : LoadedPackage)
    → IsReadAmong tables ps i p kept imports declared
    → NotesFollow tables ps i p (tellings_by_read ps imports) e

-- what is said by it
pub record SaysByRead
    (form : UnitForm) (kept : KeptPackage) (imports : ReadImports) (declared : DeclaredTables) (unit : ToldUnit)
    : Type 0 where
  pub tells : TellsSources kept unit.judged
  pub follows : (tables : Tables) (ps : List LoadedPackage) (i : ℕ) (p : LoadedPackage)
      → IsReadAmong tables ps i p kept imports declared
      → FollowsFromTold (by_paths tables) ps i p (tellings_by_read ps imports) (said_view unit.judged)
  pub is_text : IsUnitText form unit.judged (NotesByRead kept imports declared) unit.text.items

-- what is known of it where it alone is given
abbrev pub IsGivenAlone : Tables → KeptPackage → Given → Type 0
IsGivenAlone tables kept given = (p : LoadedPackage) → TellsPackage p kept → TellsGiven tables (p ∷ []) given

-- what is said follows from what was told
pub record IsToldUnit
    (form : UnitForm) (outside : List PackageEntry) (told : List ImportedUnit) (kept : KeptPackage) (unit : ToldUnit)
    : Type 0 where
  pub is_judged : IsJudgedByTold outside told kept unit.judged
  pub is_text : IsUnitText form unit.judged (NotesFollowFromTold outside told kept) unit.text.items
