-- The law of units: where packages are judged by themselves, each after those that it imports, and each is told what
-- was kept of these, what they say is the report of all packages in one run. So each yes among them says of runs what a
-- yes of that report says. And a yes is a unit whose text is empty, where that is no JSON.
use Rattle.std.specs.Prelude.{ℕ, ◌≡◌, ◌<◌, ◌↔◌, Bool, true, false, List, [], length, map, Contains, Some, is_some, slice_get, string_bytes}
use Rattle.std.specs.List.{AllByRecursion}
use Rattle.declared_json.specs.DeclaredPackages.{PackageEntry}
use Rattle.declared_tables.specs.DeclaredTables.{declared_tables}
use Rattle.imports.specs.Ranks.{Imports}
use Rattle.unit_reports.specs.OneUnit.{IsReportOfUnit}
use Rattle.unit_reports.specs.Units.{IsUnitReport, kept_of, told_of_path}
use Rattle.unit_reports.specs.declared.units.ImportedUnit.{ImportedUnit}
use Rattle.table_json.specs.Tables.{Rise, by_bytes, HasOrder}
use Rattle.told_reports.specs.declared.unit.UnitForm.{UnitForm}
use Rattle.told_reports.specs.declared.unit.UnitShape.{UnitShape}
use Rattle.told_reports.specs.declared.unit.UnitShape.TheVariants.{Text, Json}
use Rattle.unit_reports.specs.declared.units.UnitReport.{UnitReport}
use Rattle.load.specs.declared.packages.GivenPackage.{GivenPackage}
use Rattle.meaning_reports.specs.Loaded.{LoadedPackage, HaveDistinctPaths, import_list, imported_paths}
use Rattle.meaning_reports.specs.PackageReports.{Said, IsReportBy, by_paths}
use Rattle.meaning_runs.specs.PackageYes.{program_of}
use Rattle.meaning_runs.specs.Promise.{AreTreesOfTexts}
use Rattle.meaning_runs.specs.Runs.{IsQuietProgram}
use Rattle.one_package.specs.Judgments.{said_view}
use Rattle.tree.specs.declared.edition.Edition.{Edition}
use Rattle.tree.specs.declared.edition.Edition.TheVariants.{First, Second}
use Rattle.vetx_json.specs.KeptUnits.{VetxEntry, facts_of, function_of, name_of}
use Rattle.whole_packages.specs.LoadedViews.{TellsPackage}
use Rattle.whole_packages.specs.declared.loaded_package.LoadedPackage.{LoadedPackage as KeptPackage}

-- a run that judges one package, which was loaded, where that is declared of others; runs are numbered in some order
pub record UnitRun (outside : List PackageEntry) : Type 0 where
  pub form : UnitForm
  pub told : List ImportedUnit
  pub loaded : KeptPackage
  pub report : UnitReport
  pub is_report : IsUnitReport form outside told loaded report
  pub time : ℕ

-- what is kept is what the run found
pub record IsKeptOf (report : UnitReport) (v : VetxEntry) : Type 0 where
  pub is_name : v.name ≡ string_bytes report.name
  pub is_fault : v.has_whole_fault ≡ report.has_whole_fault
  pub is_yes : v.is_yes ≡ report.is_yes
  pub are_functions : v.functions ≡ map function_of report.functions.items

-- the functions that it keeps are in order: their names rise, and each is in order
pub record KeepsInOrder (report : UnitReport) : Type 0 where
  pub names_rise : Rise by_bytes name_of (map function_of report.functions.items)
  pub each_in_order : AllByRecursion (λ f. HasOrder (facts_of f)) (map function_of report.functions.items)

-- the number by which what is kept of a package tells its edition
abbrev pub edition_number : Edition → ℕ
edition_number First = 1
edition_number Second = 2

-- what is told is what was kept of an import, when that was judged, where it was kept in order
pub record IsToldOfRun
    {outside : List PackageEntry} (ps : List LoadedPackage) (runs : List (UnitRun outside)) (i : ℕ) (one : ImportedUnit)
    : Type 0 where
  pub place : ℕ
  pub imported : LoadedPackage
  pub run : UnitRun outside
  pub is_imported : slice_get ps place ≡ Some imported
  pub is_run : slice_get runs place ≡ Some run
  pub imports : Imports (import_list ps) i place
  pub is_path : one.path.now ≡ imported.path
  pub is_kept : KeepsInOrder run.report → IsKeptOf run.report (kept_of one)
  pub is_edition : KeepsInOrder run.report → (kept_of one).edition ≡ edition_number imported.edition

-- Each was told of the given packages that it imports, and of no others that it imports; what was kept of these; and
-- these were judged before.
pub record AreToldInOrder (outside : List PackageEntry) (ps : List LoadedPackage) (runs : List (UnitRun outside))
    : Type 0 where
  pub are_told : (i : ℕ) (p : LoadedPackage) (run : UnitRun outside) (one : ImportedUnit)
      → slice_get ps i ≡ Some p
      → slice_get runs i ≡ Some run
      → Contains run.told one
      → Contains (imported_paths p) one.path.now
      → IsToldOfRun ps runs i one
  pub all_are_told : (i j : ℕ) (q : LoadedPackage) (run : UnitRun outside)
      → Imports (import_list ps) i j
      → slice_get ps j ≡ Some q
      → slice_get runs i ≡ Some run
      → is_some (told_of_path run.told q.path) ≡ true
  pub are_in_time : (i j : ℕ) (run imported : UnitRun outside)
      → Imports (import_list ps) i j
      → slice_get runs i ≡ Some run
      → slice_get runs j ≡ Some imported
      → imported.time < run.time

-- they are the runs of the packages, in the order of these
pub record AreUnitRuns (outside : List PackageEntry) (ps : List LoadedPackage) (runs : List (UnitRun outside))
    : Type 0 where
  pub are_all : length runs ≡ length ps
  pub are_of : (i : ℕ) (p : LoadedPackage) (run : UnitRun outside)
      → slice_get ps i ≡ Some p
      → slice_get runs i ≡ Some run
      → TellsPackage p run.loaded
  pub in_order : AreToldInOrder outside ps runs

-- each tree of the packages is that of a text, but for the paths of its imports
abbrev pub AreOfTexts : List LoadedPackage → Type 0
AreOfTexts ps = (i : ℕ) (p : LoadedPackage) → slice_get ps i ≡ Some p → AreTreesOfTexts p

abbrev pub said_by : {outside : List PackageEntry} → UnitRun outside → Said
said_by run = said_view run.is_report.judged

abbrev pub UnitRunsAreTheReport : Type 0
UnitRunsAreTheReport = (outside : List PackageEntry) (ps : List LoadedPackage) (runs : List (UnitRun outside))
    → HaveDistinctPaths ps
    → AreOfTexts ps
    → AreUnitRuns outside ps runs
    → IsReportBy (by_paths (declared_tables outside)) ps (map said_by runs)

-- each package of which its run says nothing is quiet by the tables of that report
abbrev pub YesUnitsAreQuiet : Type 0
YesUnitsAreQuiet = (outside : List PackageEntry) (ps : List LoadedPackage) (runs : List (UnitRun outside))
    (i : ℕ) (p : LoadedPackage) (run : UnitRun outside)
    → (is_report : IsReportBy (by_paths (declared_tables outside)) ps (map said_by runs))
    → HaveDistinctPaths ps
    → AreOfTexts ps
    → slice_get ps i ≡ Some p
    → slice_get runs i ≡ Some run
    → run.report.is_yes ≡ true
    → IsQuietProgram (program_of ps is_report.tables (declared_tables outside) i)

-- What the runs say is the report of all, and each report of all in one run says just that. By its tables each package
-- of which its run says nothing is quiet. And each keeps in order what it keeps.
pub record AreQuietUnits (outside : List PackageEntry) (ps : List LoadedPackage) (runs : List (UnitRun outside))
    : Type 0 where
  pub is_report : IsReportBy (by_paths (declared_tables outside)) ps (map said_by runs)
  pub is_only : (said : List Said)
      → IsReportBy (by_paths (declared_tables outside)) ps said
      → said ≡ map said_by runs
  pub each_yes_is_quiet : (i : ℕ) (run : UnitRun outside)
      → slice_get runs i ≡ Some run
      → run.report.is_yes ≡ true
      → IsQuietProgram (program_of ps is_report.tables (declared_tables outside) i)
  pub each_keeps_in_order : (i : ℕ) (run : UnitRun outside) → slice_get runs i ≡ Some run → KeepsInOrder run.report

-- whenever packages were judged so in order, each with what its imports kept
abbrev pub QuietUnits : Type 0
QuietUnits = (outside : List PackageEntry) (ps : List LoadedPackage) (runs : List (UnitRun outside))
    → HaveDistinctPaths ps
    → AreOfTexts ps
    → AreUnitRuns outside ps runs
    → AreQuietUnits outside ps runs

-- What is printed

-- the findings are told as text
abbrev pub is_text : UnitShape → Bool
is_text (Text around) = true
is_text (Json name) = false

-- Where accepted findings are told too, a unit with an empty text is yes. And a unit that is yes has an empty text,
-- unless lines that accept nothing are told.
pub record SilentUnitsAreYes : Type 0 where
  pub silence_is_yes : (outside : List PackageEntry) (run : UnitRun outside)
      → is_text run.form.shape ≡ true
      → run.form.telling.tells_accepted ≡ true
      → run.report.text.items ≡ []
      → run.report.is_yes ≡ true
  pub yes_is_silent : (outside : List PackageEntry) (run : UnitRun outside)
      → is_text run.form.shape ≡ true
      → run.form.telling.tells_stale ≡ false
      → run.report.is_yes ≡ true
      → run.report.text.items ≡ []

-- Of packages that are given by the bytes of their files

pub record GivenRun (outside : List PackageEntry) : Type 0 where
  pub form : UnitForm
  pub told : List ImportedUnit
  pub given : GivenPackage
  pub report : UnitReport
  pub is_report : IsReportOfUnit form outside told given report
  pub time : ℕ

-- the package as its files were read
abbrev pub meant_by : {outside : List PackageEntry} → GivenRun outside → LoadedPackage
meant_by run = run.is_report.is_loaded.meant

abbrev pub as_unit_run : {outside : List PackageEntry} → GivenRun outside → UnitRun outside
as_unit_run run = record {
  form = run.form;
  told = run.told;
  loaded = run.is_report.kept;
  report = run.report;
  is_report = run.is_report.is_report;
  time = run.time;
}

-- so it is of these, and nothing else is asked for
abbrev pub QuietGivenUnits : Type 0
QuietGivenUnits = (outside : List PackageEntry) (runs : List (GivenRun outside))
    → HaveDistinctPaths (map meant_by runs)
    → AreToldInOrder outside (map meant_by runs) (map as_unit_run runs)
    → AreQuietUnits outside (map meant_by runs) (map as_unit_run runs)
