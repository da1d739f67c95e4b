-- What the program keeps of a package that was judged, and of those around it, and what it stands for.
use Rattle.std.specs.Prelude.{ℕ, ◌≡◌, ◌↔◌, Bool, true, false, List, [], ◌∷◌, Option, Some, map, slice_get, Contains, string_bytes}
use Rattle.std.specs.List.{AllPairs}
use Rattle.meaning.specs.FunctionFacts.{FunctionFacts}
use Rattle.meaning_packages.specs.CallsFlags.{Flags}
use Rattle.declared_tables.specs.DeclaredTables.{table_view as kept_view}
use Rattle.declared_tables.specs.MarkedGivers.{MarksGivers}
use Rattle.facts.specs.FactViews.{facts_by_path}
use Rattle.gathering.specs.Results.{HasFinding}
use Rattle.imports.specs.Ranks.{Imports}
use Rattle.imports.specs.Settling.{place_from}
use Rattle.imports.specs.Views.{at_path}
use Rattle.called_parameters.specs.Called.{flags_by_path}
use Rattle.whole_packages.specs.declared.loaded_package.LoadedPackage.{LoadedPackage as KeptPackage}
use Rattle.whole_packages.specs.WholeEntries.{is_marked, is_set, PicksUnranked}
use Rattle.first_values.specs.ValuesByName.{value_of}
use Rattle.names.specs.Answers.{names_by_path}
use Rattle.report.specs.Entries.{Entry, Precedes, entry_of, texts_of}
use Rattle.report.specs.declared.diagnostics.Diagnostic.{Diagnostic}
use Rattle.report.specs.declared.diagnostics.PackageReport.{PackageReport}
use Rattle.meaning_reports.specs.Loaded.{LoadedPackage, PackageTable, Tables, counts, import_list, imported_paths, package_names, imported_tables, imported_signatures, imported_flags}
use Rattle.meaning_reports.specs.PackageTables.{IsTableBy, IsEmpty}
use Rattle.meaning_reports.specs.UsedImports.{IsNeeded}
use Rattle.meaning_reports.specs.WholeFaults.{IsWholeFault}
use Rattle.meaning_reports.specs.PackageReports.{Rules, Said, AreFindingsBy, AreFieldsToTell}
use Rattle.silent_files.specs.SilentPackages.{GiveNone}
use Rattle.files_to_walk.specs.Signs.{is_told, may_give}
use Rattle.given_packages.specs.Neighbours.{PicksCounted}
use Rattle.one_package.specs.declared.judged.Around.{Around}
use Rattle.one_package.specs.declared.judged.Judged.{Judged}
use Rattle.one_package.specs.declared.known_imports.NotYes.{NotYes}

abbrev pub table_view : Judged → PackageTable
table_view judged = kept_view judged.table

-- what is said of the package
abbrev pub entries_of : Judged → List Entry
entries_of judged = map entry_of judged.report.diagnostics.items

-- the fields that its verdict tells of
abbrev pub keeping_of : Judged → List (List ℕ)
keeping_of judged = texts_of judged.report.keeping.items

abbrev pub said_view : Judged → Said
said_view judged = record {
  path = judged.report.path.now;
  entries = entries_of judged;
  keeping = keeping_of judged;
  table = table_view judged;
}

-- there is nothing to say of the package
abbrev pub says_nothing : List Diagnostic → Bool
says_nothing [] = true
says_nothing (d ∷ ds) = false

abbrev pub is_yes : PackageReport → Bool
is_yes report = says_nothing report.diagnostics.items

-- What is known around a package

-- what is kept of the packages around one
pub record Surroundings : Type 0 where
  pub names : List ℕ → Option (List ℕ)
  pub signatures : List ℕ → List ℕ → Option FunctionFacts
  pub calls : List ℕ → Flags
  pub givers : List ℕ → Bool
  pub told : List ℕ → Bool
  pub unranked : List ℕ → Bool
  pub counted : List ℕ → Bool

-- it is what is known of those around the package
pub record KnownAround (ps : List LoadedPackage) (tables : Tables) (p : LoadedPackage) (around : Surroundings)
    : Type 0 where
  pub are_names : (path : List ℕ) → Contains (imported_paths p) path → around.names path ≡ package_names ps path
  pub are_signatures : (path name : List ℕ) → around.signatures path name ≡ imported_signatures p tables path name
  pub are_calls : (path name : List ℕ) (k : ℕ) → around.calls path name k ≡ imported_flags p tables path name k
  pub are_givers : (path : List ℕ) → around.givers path ≡ false → GiveNone (imported_signatures p tables path)
  pub are_told : (path : List ℕ) → around.told path ≡ (imported_tables p tables path).is_told
  pub are_unranked : PicksUnranked ps p around.unranked
  pub are_counted : PicksCounted ps p around.counted

abbrev pub around_view : Around → Surroundings
around_view around = record {
  names = names_by_path around.names.now;
  signatures = facts_by_path around.signatures.now;
  calls = flags_by_path around.calls.now;
  givers = may_give around.signs.now;
  told = is_told around.signs.now;
  unranked = is_marked (at_path around.unranked.places.now) around.unranked.marks.now;
  counted = is_marked (at_path around.counted.places.now) around.counted.marks.now;
}

abbrev pub TellsAround : List LoadedPackage → Tables → LoadedPackage → Around → Type 0
TellsAround ps tables p around = KnownAround ps tables p (around_view around)

-- Which of its imports are not yes

-- the path is that of a package that the package of the place `i` imports
pub record IsOfImport (ps : List LoadedPackage) (i : ℕ) (path : List ℕ) : Type 0 where
  pub place : ℕ
  pub imported : LoadedPackage
  pub is_there : slice_get ps place ≡ Some imported
  pub imports : Imports (import_list ps) i place
  pub is_path : path ≡ imported.path

-- picked are the imports of the package of the place `i` that aren't yes, and nothing that it doesn't import
pub record AreNotYes
    (rules : Rules) (ps : List LoadedPackage) (tables : Tables) (i : ℕ) (picked : List ℕ → Bool)
    : Type 0 where
  pub of_imports : (j : ℕ) (q : LoadedPackage)
      → Imports (import_list ps) i j
      → slice_get ps j ≡ Some q
      → (picked q.path ≡ true) ↔ HasFinding rules ps tables j
  pub are_given : (path : List ℕ) → picked path ≡ true → IsOfImport ps i path

-- picked are those of them that the package needs to be yes
pub record ArePicked
    (rules : Rules) (ps : List LoadedPackage) (tables : Tables) (i : ℕ) (picked : List ℕ → Bool)
    : Type 0 where
  pub of_imports : (j : ℕ) (q : LoadedPackage)
      → Imports (import_list ps) i j
      → slice_get ps j ≡ Some q
      → (picked q.path ≡ true) ↔ (HasFinding rules ps tables j × IsNeeded ps tables i j q.path)
  pub are_given : (path : List ℕ) → picked path ≡ true → IsOfImport ps i path

-- whether something is to be said of the package of that path, if it was judged
abbrev pub mark_by_path : NotYes → List ℕ → Option Bool
mark_by_path not_yes = value_of not_yes.packages

abbrev pub is_picked : NotYes → List ℕ → Bool
is_picked not_yes path = is_set (mark_by_path not_yes path)

abbrev pub PicksNotYes : Rules → List LoadedPackage → Tables → ℕ → Around → Type 0
PicksNotYes rules ps tables i around = AreNotYes rules ps tables i (is_picked around.not_yes.now)

-- What is found

-- it is what is to be said of the package, the fields that its verdict tells of, and its table
pub record IsJudgment
    (rules : Rules) (ps : List LoadedPackage) (tables : Tables) (i : ℕ) (p : LoadedPackage) (judged : Judged)
    : Type 0 where
  pub is_table : IsTableBy rules.are_flags ps tables i p (table_view judged)
  pub are_findings : AreFindingsBy rules ps tables i (entries_of judged)
  pub are_fields : AreFieldsToTell ps tables p (entries_of judged) (keeping_of judged)

-- the report has the package's path and its sources, and the table has the flag of its givers
pub record TellsSources (loaded : KeptPackage) (judged : Judged) : Type 0 where
  pub is_path : judged.report.path.now ≡ string_bytes loaded.path
  pub are_sources : judged.report.sources.now ≡ loaded.sources.items
  pub is_marked : MarksGivers judged.table

-- just these entries, in their order, no field is told of, and nothing is known of functions
pub record IsWholeOnly (entries : List Entry) (judged : Judged) : Type 0 where
  pub in_order : AllPairs Precedes (entries_of judged)
  pub each : (x : Entry) → Contains (entries_of judged) x ↔ Contains entries x
  pub no_fields : keeping_of judged ≡ []
  pub is_empty : IsEmpty (table_view judged)
