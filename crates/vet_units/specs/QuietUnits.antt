-- Units that ran in order: what they found together is the report of all of their packages in one run, and each yes
-- among them is quiet. That the go command runs them so, and hands on what they kept, no contract can say.
use Rattle.std.specs.Prelude.{ℕ, ◌≡◌, ◌<◌, Bool, true, false, List, [], map, Contains, Some, slice_get, string_bytes}
use Rattle.std.specs.List.{AllByRecursion}
use Rattle.command_line.specs.declared.vet_told.UnitFlags.{UnitFlags}
use Rattle.declared_json.specs.DeclaredPackages.{PackageEntry, packages_of}
use Rattle.declared_tables.specs.DeclaredTables.{declared_tables}
use Rattle.folders.specs.ReadFiles.{bytes_read}
use Rattle.imports.specs.Ranks.{Imports}
use Rattle.inputs.specs.KnownPackages.{all_known}
use Rattle.meaning_reports.specs.Loaded.{LoadedPackage, HaveDistinctPaths, import_list, imported_paths}
use Rattle.meaning_reports.specs.PackageReports.{IsReportBy, Said, by_paths}
use Rattle.meaning_runs.specs.PackageYes.{program_of}
use Rattle.meaning_runs.specs.Runs.{IsQuietProgram}
use Rattle.one_package.specs.Judgments.{said_view}
use Rattle.tree.specs.declared.edition.Edition.{Edition}
use Rattle.tree.specs.declared.edition.Edition.TheVariants.{First, Second}
use Rattle.unit_config.specs.UnitValues.{UnitEntry}
use Rattle.unit_reading.specs.ToldImports.{counts_in}
use Rattle.unit_reading.specs.declared.vetx_input.ToldImport.{ToldImport}
use Rattle.vetx_json.specs.KeptUnits.{vetx_of, IsInOrder}
use Rattle.vetx_json.specs.VetxTexts.{IsWrittenText}
use Rattle.vet_units.specs.JudgedUnits.{IsJudgedSo}
use Rattle.vet_units.specs.UnitsRead.{edition_of_unit, IsInputOf}
use Rattle.vet_units.specs.declared.unit_input.UnitInput.{UnitInput}
use Rattle.vet_units.specs.declared.unit_report.JudgedUnit.{JudgedUnit}

-- a unit that was judged, by what was read for it, and when; runs are numbered in some order
pub record RanUnit : Type 0 where
  pub flags : UnitFlags
  pub unit : UnitEntry
  pub input : UnitInput
  pub is_input : IsInputOf flags unit input
  pub judged : JudgedUnit
  pub is_judged : IsJudgedSo flags unit input judged
  pub time : ℕ

abbrev pub ran_unit : (flags : UnitFlags) (unit : UnitEntry) (input : UnitInput) → IsInputOf flags unit input
    → (judged : JudgedUnit)
    → IsJudgedSo flags unit input judged
    → (time : ℕ)
    → RanUnit
ran_unit flags unit input is_input judged is_judged time = record {
  flags = flags;
  unit = unit;
  input = input;
  is_input = is_input;
  judged = judged;
  is_judged = is_judged;
  time = time;
}

-- its package, as its files were read
abbrev pub package_of : RanUnit → LoadedPackage
package_of ran = ran.is_judged.is_report.is_loaded.meant

-- what its report says
abbrev pub said_in : RanUnit → Said
said_in ran = said_view ran.is_judged.is_report.is_report.judged

-- what is known of packages, be it of the unit's own
abbrev pub known_by : Edition → (without_library : Bool) → List PackageEntry → List PackageEntry
known_by First without_library declared = declared
known_by Second without_library declared = all_known without_library declared

abbrev pub known_to : RanUnit → List PackageEntry
known_to ran =
    known_by (edition_of_unit ran.flags) ran.flags.without_library (packages_of ran.is_input.are_outside.declared)

-- this was read of an import, and it counts where the unit is judged
pub record WasTold (ran : RanUnit) (told : ToldImport) : Type 0 where
  pub is_told : Contains ran.input.told.items told
  pub counts : counts_in (string_bytes ran.input.module_path) told ≡ true

module _ (runs : List RanUnit) where
  abbrev pub packages_in : List LoadedPackage
  packages_in = map package_of runs

  -- the file that was read for the import has the text of what the unit of that package kept
  pub record WasKept (told : ToldImport) : Type 0 where
    pub place : ℕ
    pub by : RanUnit
    pub is_by : slice_get runs place ≡ Some by
    pub is_path : string_bytes told.kept.path ≡ (package_of by).path
    pub is_text : IsWrittenText (vetx_of by.judged.kept) (bytes_read told.file)

  -- The units have packages of different paths, and the same is known to all. Each read what those had kept that it
  -- imports: of each of them that is among the units, and of no others; and these ran before.
  pub record RanInOrder (known : List PackageEntry) : Type 0 where
    pub are_apart : HaveDistinctPaths packages_in
    pub are_beside : AllByRecursion (λ ran. known_to ran ≡ known) runs
    pub are_told : (i : ℕ) (ran : RanUnit) (told : ToldImport)
        → slice_get runs i ≡ Some ran
        → WasTold ran told
        → Contains (imported_paths (package_of ran)) (string_bytes told.kept.path)
        → WasKept told
    pub all_are_told : (i j : ℕ) (ran imported : RanUnit)
        → slice_get runs i ≡ Some ran
        → slice_get runs j ≡ Some imported
        → Imports (import_list packages_in) i j
        → (told : ToldImport) × WasTold ran told × (string_bytes told.kept.path ≡ (package_of imported).path)
    pub are_in_time : (i j : ℕ) (ran imported : RanUnit)
        → slice_get runs i ≡ Some ran
        → slice_get runs j ≡ Some imported
        → Imports (import_list packages_in) i j
        → imported.time < ran.time

  -- What the units say is the report of all packages in one run, and there is no other. Where nothing is said of this
  -- one, it is quiet by the tables of that report. And what it keeps is in order, so that its text is read as it is.
  pub record IsQuietIn (known : List PackageEntry) (i : ℕ) (ran : RanUnit) : Type 0 where
    pub is_report : IsReportBy (by_paths (declared_tables known)) packages_in (map said_in runs)
    pub is_only : (said : List Said)
        → IsReportBy (by_paths (declared_tables known)) packages_in said
        → said ≡ map said_in runs
    pub yes_is_quiet : ran.judged.kept.is_yes ≡ true
        → IsQuietProgram (program_of packages_in is_report.tables (declared_tables known) i)
    pub is_in_order : IsInOrder (vetx_of ran.judged.kept)

-- so it is of this unit, whichever units ran in order with it
abbrev pub IsQuietAmong : RanUnit → Type 0
IsQuietAmong ran = (runs : List RanUnit) (known : List PackageEntry) (i : ℕ)
    → RanInOrder runs known
    → slice_get runs i ≡ Some ran
    → IsQuietIn runs known i ran

-- one that is told as text, with accepted findings too, and that has an empty text is yes
abbrev pub SilenceIsYes : RanUnit → Type 0
SilenceIsYes ran = ran.flags.is_json ≡ false
    → ran.flags.accepted ≡ true
    → ran.judged.text.items ≡ []
    → ran.judged.kept.is_yes ≡ true
