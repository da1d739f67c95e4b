-- A package that is judged by itself, in a run of its own: by its files, by what was kept of those that it imports when
-- they were judged, and by what is declared of others. What is said of it, and what is kept of it in turn.
use Rattle.std.specs.Prelude.{ℕ, ◌≡◌, ◌↔◌, ◌==◌, ◌&&◌, ⊤, Bool, true, false, not, if◌then◌else◌, List, [], ◌∷◌, map, Contains, Option, Some, None, is_some, slice_get, string_bytes}
use Rattle.accepting.specs.Findings.{FoundEntry, explained_package, plain_package}
use Rattle.declared_json.specs.DeclaredPackages.{PackageEntry}
use Rattle.declared_tables.specs.DeclaredTables.{declared_tables}
use Rattle.explanations.specs.Plain.{judged_view, plain_view}
use Rattle.explanations.specs.Units.{NotesFollow}
use Rattle.first_values.specs.ValuesByName.{only_at}
use Rattle.gathering.specs.Results.{Told, Tellings, FollowsFromTold}
use Rattle.imports.specs.Ranks.{HasRank}
use Rattle.imports.specs.Settling.{place_from}
use Rattle.unit_reports.specs.declared.units.ImportedUnit.{ImportedUnit}
use Rattle.unit_reports.specs.declared.units.UnitReport.{UnitReport}
use Rattle.meaning.specs.OuterBlocks.{or_else}
use Rattle.meaning_reports.specs.Loaded.{LoadedPackage, Tables, HaveDistinctPaths, counts, import_list, imported_paths, name_in, package_names, trees_of}
use Rattle.meaning_reports.specs.PackageReports.{by_paths}
use Rattle.meaning_reports.specs.PackageTables.{IsTable}
use Rattle.meaning_reports.specs.WholeFaults.{IsWholeFault}
use Rattle.one_package.specs.Judgments.{TellsSources, is_yes, said_view, table_view}
use Rattle.one_package.specs.declared.judged.Judged.{Judged}
use Rattle.report.specs.Entries.{Entry}
use Rattle.report.specs.declared.notes.ExplainedPackage.{ExplainedPackage}
use Rattle.told_reports.specs.UnitTexts.{unit_text_in}
use Rattle.told_reports.specs.declared.unit.UnitForm.{UnitForm}
use Rattle.vetx_json.specs.KeptUnits.{FunctionEntry, VetxEntry, function_of, vetx_of}
use Rattle.vetx_tables.specs.KeptLaws.{AreKept}
use Rattle.vetx_tables.specs.KeptTables.{function_fits, table_again}
use Rattle.vetx_tables.specs.declared.fault.KeptFault.{KeptFault}
use Rattle.vetx_tables.specs.declared.fault.KeptFault.TheVariants.{TooLarge, OutOfMemory}
use Rattle.whole_packages.specs.LoadedViews.{TellsPackage}
use Rattle.whole_packages.specs.declared.loaded_package.LoadedPackage.{LoadedPackage as KeptPackage}

-- What is told of imports

abbrev pub kept_of : ImportedUnit → VetxEntry
kept_of one = vetx_of one.vetx.now

-- the package counts as given: by the number of its edition, and by whether it has a fault as a whole
abbrev pub counts_so : VetxEntry → Bool
counts_so v = not (v.has_whole_fault && v.edition == 2)

-- where it does not, nothing is known of its functions
abbrev pub functions_so : VetxEntry → List FunctionEntry
functions_so v = if counts_so v then v.functions else []

-- the table that is made of what was kept, and the verdict
abbrev pub told_by_vetx : VetxEntry → Told
told_by_vetx v = record { table = table_again (functions_so v); is_yes = v.is_yes }

-- what is told of the package of that path, by the first that has it
abbrev pub told_of_path : List ImportedUnit → List ℕ → Option Told
told_of_path [] path = None
told_of_path (one ∷ rest) path =
    or_else (only_at one.path.now (told_by_vetx (kept_of one)) path) (told_of_path rest path)

abbrev pub told_of_package : List ImportedUnit → Option LoadedPackage → Option Told
told_of_package told None = None
told_of_package told (Some q) = told_of_path told q.path

-- by the places of packages
abbrev pub tellings_in : List LoadedPackage → List ImportedUnit → Tellings
tellings_in ps told j = told_of_package told (slice_get ps j)

-- the name of a package clause; a package without a tree has none, and the empty text is kept of it
abbrev pub name_if_any : List ℕ → Option (List ℕ)
name_if_any [] = None
name_if_any (b ∷ bs) = Some (b ∷ bs)

abbrev pub name_or_empty : Option (List ℕ) → List ℕ
name_or_empty None = []
name_or_empty (Some name) = name

-- one that counts as not given has none either
abbrev pub name_so : VetxEntry → Option (List ℕ)
name_so v = if counts_so v then name_if_any v.name else None

-- the package of its path is given, and what is told of its name is right, and whether it counts as given
pub record IsRightlyTold (ps : List LoadedPackage) (one : ImportedUnit) : Type 0 where
  pub place : ℕ
  pub is_place : place_from one.path.now (import_list ps) 0 ≡ Some place
  pub is_name : name_so (kept_of one) ≡ package_names ps one.path.now
  pub is_counted : counts_so (kept_of one) ≡ counts (slice_get ps place)

-- so it is of those that the package imports, and each given package that it imports is told of
pub record AreImportsTold (ps : List LoadedPackage) (p : LoadedPackage) (told : List ImportedUnit) : Type 0 where
  pub are_right : (one : ImportedUnit)
      → Contains told one
      → Contains (imported_paths p) one.path.now
      → IsRightlyTold ps one
  pub are_all : (path : List ℕ)
      → Contains (imported_paths p) path
      → is_some (place_from path (import_list ps) 0) ≡ true
      → is_some (told_of_path told path) ≡ true

-- What is said

-- Whichever packages it is among, if it is told of those of them that it imports: what is said of it follows from what
-- it was told, and where that is declared of others. So it is judged by its files alone, and by what it was told.
pub record IsJudgedByTold
    (outside : List PackageEntry) (told : List ImportedUnit) (kept : KeptPackage) (judged : Judged)
    : Type 0 where
  pub tells : TellsSources kept judged
  pub follows : (ps : List LoadedPackage) (i : ℕ) (p : LoadedPackage)
      → slice_get ps i ≡ Some p
      → TellsPackage p kept
      → HasRank (import_list ps) i
      → AreImportsTold ps p told
      → FollowsFromTold (by_paths (declared_tables outside)) ps i p (tellings_in ps told) (said_view judged)

-- And so do notes: by all tables that have what it was told, those of a path tell a shortest way, and that of a use the
-- reason of that use.
abbrev pub NotesFollowFromTold : List PackageEntry → List ImportedUnit → KeptPackage → ExplainedPackage → Type 0
NotesFollowFromTold outside told kept explained = (ps : List LoadedPackage) (i : ℕ) (p : LoadedPackage)
    → slice_get ps i ≡ Some p
    → TellsPackage p kept
    → HasRank (import_list ps) i
    → AreImportsTold ps p told
    → NotesFollow (declared_tables outside) ps i p (tellings_in ps told) explained

-- this holds of the same diagnostics with their notes
pub record HoldsExplained
    (judged : Judged) (AreNotes : ExplainedPackage → Type 0) (holds : FoundEntry → Type 0)
    : Type 0 where
  pub explained : ExplainedPackage
  pub is_same : plain_view explained ≡ judged_view judged
  pub are_notes : AreNotes explained
  pub so : holds (explained_package explained)

-- this holds of the diagnostics, with their notes where these are asked for
abbrev pub HoldsOfUnit :
    (with_reasons : Bool) → Judged → (ExplainedPackage → Type 0) → (FoundEntry → Type 0) → Type 0
HoldsOfUnit false judged AreNotes holds = holds (plain_package judged.report)
HoldsOfUnit true judged AreNotes holds = HoldsExplained judged AreNotes holds

-- it is the text of the findings in this form, and of no verdict
abbrev pub IsUnitText : UnitForm → Judged → (ExplainedPackage → Type 0) → List ℕ → Type 0
IsUnitText form judged AreNotes text =
    HoldsOfUnit form.with_reasons judged AreNotes (λ found. text ≡ unit_text_in form found)

-- the package has a fault as a whole, wherever it is given with a rank, if and only if it is marked
abbrev pub MarksWholeFault : KeptPackage → Bool → Type 0
MarksWholeFault kept mark = (ps : List LoadedPackage) (i : ℕ) (p : LoadedPackage)
    → slice_get ps i ≡ Some p
    → TellsPackage p kept
    → HaveDistinctPaths ps
    → HasRank (import_list ps) i
    → (mark ≡ true) ↔ ((x : Entry) × IsWholeFault ps i x)

-- the report in this form, and what is kept of the package
pub record IsUnitReport
    (form : UnitForm) (outside : List PackageEntry) (told : List ImportedUnit) (kept : KeptPackage)
    (report : UnitReport)
    : Type 0 where
  pub judged : Judged
  pub is_judged : IsJudgedByTold outside told kept judged
  pub is_text : IsUnitText form judged (NotesFollowFromTold outside told kept) report.text.items
  -- what is kept of it: its verdict, its name, whether it has a fault as a whole, and its functions
  pub verdict : report.is_yes ≡ is_yes judged.report
  pub is_name : (p : LoadedPackage)
      → TellsPackage p kept
      → string_bytes report.name ≡ name_or_empty (name_in (trees_of p))
  pub is_fault : MarksWholeFault kept report.has_whole_fault
  pub are_kept : (ps : List LoadedPackage) (tables : Tables) (i : ℕ) (p : LoadedPackage)
      → TellsPackage p kept
      → IsTable ps tables i p (table_view judged)
      → AreKept (table_view judged) (map function_of report.functions.items)

-- why there is none: a number of a function of the table that it was judged by is not below 2^32
pub record HasLargeNumber (outside : List PackageEntry) (told : List ImportedUnit) (kept : KeptPackage) : Type 0 where
  pub judged : Judged
  pub is_judged : IsJudgedByTold outside told kept judged
  pub name : List ℕ
  pub is_large : function_fits (table_view judged) name ≡ false

-- or memory was refused
abbrev pub IsUnitFault : List PackageEntry → List ImportedUnit → KeptPackage → KeptFault → Type 0
IsUnitFault outside told kept TooLarge = HasLargeNumber outside told kept
IsUnitFault outside told kept OutOfMemory = ⊤
