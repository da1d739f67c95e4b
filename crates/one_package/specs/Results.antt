-- What is told of packages to those that import them, and what is known of a package's imports by it.
use Rattle.std.specs.Prelude.{ℕ, ◌≡◌, not, Bool, true, if◌then◌else◌, List, [], ◌∷◌, Option, Some, None, option_map, is_some, slice_get, Contains}
use Rattle.std.specs.List.{list_any}
use Rattle.std.specs.Str.{bytes_eq}
use Rattle.meaning.specs.OuterBlocks.{or_else}
use Rattle.first_values.specs.ValuesByName.{only_at}
use Rattle.imports.specs.Ranks.{HasRank, Imports}
use Rattle.facts.specs.FactViews.{table_by_path}
use Rattle.called_parameters.specs.Called.{called_by_path}
use Rattle.declared_tables.specs.declared.tables.PackageTable.{PackageTable as KeptTable}
use Rattle.declared_tables.specs.DeclaredTables.{table_if_any, table_view as kept_view}
use Rattle.declared_tables.specs.MarkedGivers.{MarksGivers}
use Rattle.meaning_reports.specs.Loaded.{LoadedPackage, PackageTable, Tables, import_list, imported_paths, imported_tables}
use Rattle.meaning_reports.specs.PackageReports.{Said}
use Rattle.gathering.specs.Results.{Results, Told, Tellings}
use Rattle.files_to_walk.specs.Signs.{signs_by_path}
use Rattle.files_to_walk.specs.declared.signs.Signs.{Signs}
use Rattle.given_packages.specs.declared.given.Given.{Given}
use Rattle.one_package.specs.declared.judged.Judged.{Judged}
use Rattle.one_package.specs.declared.known_imports.KnownImports.{KnownImports}
use Rattle.one_package.specs.Judgments.{table_view, mark_by_path, IsOfImport, is_yes, said_view}
use Rattle.given_packages.specs.Neighbours.{Nearby, nearby_in}

-- What is told of packages

-- what is kept of a package for those that import it
pub record KeptTold : Type 0 where
  pub table : KeptTable
  pub is_yes : Bool

abbrev pub told_view : KeptTold → Told
told_view one = record { table = kept_view one.table; is_yes = one.is_yes }

-- for each path what is told of its package, as far as something is
abbrev pub ToldImports : Type 0
ToldImports = List ℕ → Option KeptTold

-- with what is told of the package of that path, unless something is told of it
abbrev pub told_and : ToldImports → List ℕ → KeptTold → ToldImports
told_and told path one other = or_else (told other) (only_at path one other)

abbrev pub told_at : ToldImports → Option LoadedPackage → Option Told
told_at told None = None
told_at told (Some p) = option_map told_view (told p.path)

-- by the places of packages
abbrev pub tellings_by_path : List LoadedPackage → ToldImports → Tellings
tellings_by_path ps told i = told_at told (slice_get ps i)

-- the table of each has the flag of its givers
abbrev pub AreMarkedTables : (List ℕ → Option KeptTable) → Type 0
AreMarkedTables tables = (path : List ℕ) (t : KeptTable) → tables path ≡ Some t → MarksGivers t

-- their tables
abbrev pub tables_told : ToldImports → List ℕ → Option KeptTable
tables_told told path = option_map (λ one. one.table) (told path)

-- it is told of packages that the package of the place `i` imports, and of all of them that have a rank
pub record AreTold (ps : List LoadedPackage) (i : ℕ) (told : ToldImports) : Type 0 where
  pub of_imports : (path : List ℕ) (one : KeptTold) → told path ≡ Some one → IsOfImport ps i path
  pub are_all : (k : ℕ) (q : LoadedPackage)
      → Imports (import_list ps) i k
      → slice_get ps k ≡ Some q
      → HasRank (import_list ps) k
      → is_some (told q.path) ≡ true
  pub are_marked : AreMarkedTables (tables_told told)

-- By what was judged

abbrev pub kept_told : Judged → KeptTold
kept_told j = record { table = j.table; is_yes = is_yes j.report }

-- what was judged of the package of that path: the first that has it
abbrev pub judged_at : List Judged → List ℕ → Option Judged
judged_at [] path = None
judged_at (j ∷ js) path = or_else (only_at j.report.path.now j path) (judged_at js path)

abbrev pub told_by : List Judged → ToldImports
told_by js path = option_map kept_told (judged_at js path)

-- its table, if it was judged
abbrev pub table_or : PackageTable → Option Judged → PackageTable
table_or declared None = declared
table_or declared (Some j) = table_view j

abbrev pub said_at : List Judged → Option LoadedPackage → Option Said
said_at js None = None
said_at js (Some p) = option_map said_view (judged_at js p.path)

-- what these say of packages, by the places of these
abbrev pub results_by_path : List LoadedPackage → List Judged → Results
results_by_path ps js i = said_at js (slice_get ps i)

-- the table of each has the flag of its givers
abbrev pub AllMarked : List Judged → Type 0
AllMarked js = (j : Judged) → Contains js j → MarksGivers j.table

-- these are of packages that the package of the place `i` imports, and all of them that have a rank
pub record AreImported (ps : List LoadedPackage) (i : ℕ) (js : List Judged) : Type 0 where
  pub of_imports : (j : Judged) → Contains js j → IsOfImport ps i j.report.path.now
  pub are_all : (k : ℕ) (q : LoadedPackage)
      → Imports (import_list ps) i k
      → slice_get ps k ≡ Some q
      → HasRank (import_list ps) k
      → is_some (judged_at js q.path) ≡ true
  pub are_marked : AllMarked js

-- What is known of a package's imports

-- what a table shows before one looks for a function
abbrev pub signs_in : KeptTable → Signs
signs_in t = record { gives = t.gives; is_told = t.is_told }

-- for each path what these tables say of functions, and what they show, and whether something is to be said of the
-- package
pub record Knows (tables : List ℕ → Option KeptTable) (not_yes : List ℕ → Option Bool) (known : KnownImports)
    : Type 0 where
  pub are_signatures : (path : List ℕ)
      → table_by_path known.signatures path ≡ option_map (λ t. t.signatures) (tables path)
  pub are_calls : (path : List ℕ) → called_by_path known.calls path ≡ option_map (λ t. t.called) (tables path)
  pub are_signs : (path : List ℕ) → signs_by_path known.signs path ≡ option_map signs_in (tables path)
  pub are_not_yes : (path : List ℕ) → mark_by_path known.not_yes path ≡ not_yes path

abbrev pub not_yes_told : ToldImports → List ℕ → Option Bool
not_yes_told told path = option_map (λ one. not one.is_yes) (told path)

-- by what is told of them
abbrev pub KnowsTold : ToldImports → KnownImports → Type 0
KnowsTold told known = Knows (tables_told told) (not_yes_told told) known

abbrev pub KnowsJudged : List Judged → KnownImports → Type 0
KnowsJudged js known = KnowsTold (told_by js) known

-- What is declared of a package's imports

-- what is declared of the package of that path, unless it was given
abbrev pub declared_outside : Nearby → List ℕ → Option KeptTable
declared_outside near path = if is_some (near.places path) then None else near.declared path

-- the same, if it is this path
abbrev pub declared_if : Nearby → List ℕ → List ℕ → Option KeptTable
declared_if near q path = if bytes_eq q path then declared_outside near path else None

-- the same, if it is one of these paths
abbrev pub declared_among : Nearby → List (List ℕ) → List ℕ → Option KeptTable
declared_among near paths path = if list_any (λ q. bytes_eq q path) paths then declared_outside near path else None

-- What is known of a package's imports by what is told of them, and by what is declared

-- of these paths
abbrev pub known_tables : Nearby → List (List ℕ) → ToldImports → List ℕ → Option KeptTable
known_tables near paths told path = or_else (tables_told told path) (declared_among near paths path)

abbrev pub KnowsAll : Nearby → List (List ℕ) → ToldImports → KnownImports → Type 0
KnowsAll near paths told known = Knows (known_tables near paths told) (not_yes_told told) known

abbrev pub KnowsImports : Given → List (List ℕ) → List Judged → KnownImports → Type 0
KnowsImports given paths js known = KnowsAll (nearby_in given) paths (told_by js) known

-- what the package imports has the tables that are told, or that are declared, and nothing else is known
abbrev pub HaveTheirTables : Nearby → LoadedPackage → Tables → ToldImports → Type 0
HaveTheirTables near p tables told = (path : List ℕ)
    → table_if_any (known_tables near (imported_paths p) told path) ≡ imported_tables p tables path
