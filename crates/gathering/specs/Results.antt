-- What a result of one package is: what is said of the package, if this is right by any tables that are right below
-- it. So a result holds no other one, and it is right beside all others, whoever found it and when. A package without a
-- rank has a fault of the whole package by any tables, so its result asks nothing of them.
use Rattle.std.specs.Prelude.{ℕ, ◌≡◌, ◌<◌, ◌↔◌, Bool, true, false, not, List, length, Option, Some, option_map, is_some, slice_get}
use Rattle.imports.specs.Ranks.{Imports, Chain, HasRank}
use Rattle.meaning.specs.OuterBlocks.{has_any}
use Rattle.meaning_reports.specs.Loaded.{LoadedPackage, PackageTable, Tables, import_list, no_table}
use Rattle.meaning_reports.specs.PackageTables.{IsTableBy, AreTablesBy}
use Rattle.meaning_reports.specs.PackageReports.{Rules, IsFindingBy, AreFindingsBy, AreFieldsToTell, Said}
use Rattle.report.specs.Entries.{Entry}

-- a chain of imports leads from the package `i` to the package `j`, one import at least
pub record StandsBelow (ps : List LoadedPackage) (i j : ℕ) : Type 0 where
  pub first : ℕ
  pub imports : Imports (import_list ps) i first
  pub chain : Chain (import_list ps) first j

-- no package of that path was given
abbrev pub IsNotGiven : List LoadedPackage → List ℕ → Type 0
IsNotGiven ps path = (i : ℕ) (p : LoadedPackage) → slice_get ps i ≡ Some p → p.path ≡ path → ⊥

-- each package below that of the place `i` has its table, and of packages that were not given is known what is declared
pub record AreRightBelow (rules : Rules) (ps : List LoadedPackage) (tables : Tables) (i : ℕ) : Type 0 where
  pub of_below : (j : ℕ) (q : LoadedPackage)
      → slice_get ps j ≡ Some q
      → StandsBelow ps i j
      → IsTableBy rules.are_flags ps tables j q (tables q.path)
  pub of_others : (path : List ℕ) → IsNotGiven ps path → tables path ≡ rules.declared path

-- by these tables it is what is to be said of the package, the fields that its verdict tells of, and its table
pub record IsSaidBy
    (rules : Rules) (ps : List LoadedPackage) (tables : Tables) (i : ℕ) (p : LoadedPackage) (said : Said)
    : Type 0 where
  pub is_path : said.path ≡ p.path
  pub is_table : IsTableBy rules.are_flags ps tables i p said.table
  pub are_findings : AreFindingsBy rules ps tables i said.entries
  pub are_fields : AreFieldsToTell ps tables p said.entries said.keeping

-- it is so by all tables that are right below the package
abbrev pub IsResult : Rules → List LoadedPackage → ℕ → LoadedPackage → Said → Type 0
IsResult rules ps i p said = (tables : Tables)
    → AreRightBelow rules ps tables i
    → IsSaidBy rules ps tables i p said

-- Several results

-- what is said of packages by their places, as far as they were judged
abbrev pub Results : Type 0
Results = ℕ → Option Said

-- each of them is a result
abbrev pub AreResults : Rules → List LoadedPackage → Results → Type 0
AreResults rules ps results = (i : ℕ) (p : LoadedPackage) (said : Said)
    → slice_get ps i ≡ Some p
    → results i ≡ Some said
    → IsResult rules ps i p said

-- each package with a rank was judged
abbrev pub AreOfRanked : List LoadedPackage → Results → Type 0
AreOfRanked ps results = (i : ℕ) → i < length ps → HasRank (import_list ps) i → is_some (results i) ≡ true

-- each package was judged
abbrev pub AreOfAll : List LoadedPackage → Results → Type 0
AreOfAll ps results = (i : ℕ) → i < length ps → is_some (results i) ≡ true

-- By what is told of the packages that a package imports

-- what those that import a package are told of it: its table, and whether there is nothing to say of it
pub record Told : Type 0 where
  pub table : PackageTable
  pub is_yes : Bool

-- what a result tells
abbrev pub told_of : Said → Told
told_of said = record { table = said.table; is_yes = not (has_any said.entries) }

-- what is told of packages by their places, as far as something is
abbrev pub Tellings : Type 0
Tellings = ℕ → Option Told

abbrev pub tellings_of : Results → Tellings
tellings_of results i = option_map told_of (results i)

-- something is to be said of the package
pub record HasFinding (rules : Rules) (ps : List LoadedPackage) (tables : Tables) (i : ℕ) : Type 0 where
  pub entry : Entry
  pub is_finding : IsFindingBy rules ps tables i entry

-- the tables have what is told of the package, and by them something is to be said of it, if it isn't told to be yes
pub record IsToldBy
    (rules : Rules) (ps : List LoadedPackage) (tables : Tables) (i : ℕ) (p : LoadedPackage) (told : Told)
    : Type 0 where
  pub is_table : tables p.path ≡ told.table
  pub is_verdict : (told.is_yes ≡ false) ↔ HasFinding rules ps tables i

-- what the package of the place `i` imports is by the tables as it is told. Nothing is known of imports without a rank,
-- and of packages that were not given what is declared.
pub record HaveTold (rules : Rules) (ps : List LoadedPackage) (tables : Tables) (i : ℕ) (told : Tellings) : Type 0 where
  pub of_told : (j : ℕ) (q : LoadedPackage) (one : Told)
      → Imports (import_list ps) i j
      → slice_get ps j ≡ Some q
      → told j ≡ Some one
      → IsToldBy rules ps tables j q one
  pub of_unranked : (j : ℕ) (q : LoadedPackage)
      → Imports (import_list ps) i j
      → slice_get ps j ≡ Some q
      → (HasRank (import_list ps) j → ⊥)
      → tables q.path ≡ no_table
  pub of_others : (path : List ℕ) → IsNotGiven ps path → tables path ≡ rules.declared path

-- by all such tables it is what is to be said of the package: so it follows from what was told
abbrev pub FollowsFromTold : Rules → List LoadedPackage → ℕ → LoadedPackage → Tellings → Said → Type 0
FollowsFromTold rules ps i p told said = (tables : Tables)
    → HaveTold rules ps tables i told
    → IsSaidBy rules ps tables i p said

-- By results of these

abbrev pub HaveResults : Rules → List LoadedPackage → Tables → ℕ → Results → Type 0
HaveResults rules ps tables i results = HaveTold rules ps tables i (tellings_of results)

-- it follows from what these results tell: their tables, and which of them say nothing
abbrev pub FollowsFrom : Rules → List LoadedPackage → ℕ → LoadedPackage → Results → Said → Type 0
FollowsFrom rules ps i p results said = FollowsFromTold rules ps i p (tellings_of results) said

-- Together

-- these are the tables of all packages, and those of the results, of which each is right by them
pub record AreTablesOf (rules : Rules) (ps : List LoadedPackage) (results : Results) (tables : Tables) : Type 0 where
  pub are_tables : AreTablesBy rules.are_flags rules.declared ps tables
  pub each : (i : ℕ) (p : LoadedPackage) (said : Said)
      → slice_get ps i ≡ Some p
      → results i ≡ Some said
      → (said.table ≡ tables p.path) × IsSaidBy rules ps tables i p said

-- these are the tables that the results say, and of packages that were not given is known what is declared
pub record HaveTables (declared : Tables) (ps : List LoadedPackage) (results : Results) (tables : Tables)
    : Type 0 where
  pub of_results : (i : ℕ) (p : LoadedPackage) (said : Said)
      → slice_get ps i ≡ Some p
      → results i ≡ Some said
      → tables p.path ≡ said.table
  pub of_others : (path : List ℕ) → IsNotGiven ps path → tables path ≡ declared path
