-- A package that is given by the bytes of its files, and judged by itself: its report, and why there is none.
use Rattle.std.specs.Prelude.{◌≡◌, ⊤, List, [], ◌∷◌, string_bytes}
use Rattle.declared_json.specs.DeclaredPackages.{PackageEntry}
use Rattle.unit_reports.specs.Units.{HasLargeNumber, IsUnitReport}
use Rattle.unit_reports.specs.declared.one_unit.UnitReportFault.{UnitReportFault}
use Rattle.unit_reports.specs.declared.one_unit.UnitReportFault.TheVariants.{NotLoaded, TooLarge, OutOfMemory}
use Rattle.unit_reports.specs.declared.units.ImportedUnit.{ImportedUnit}
use Rattle.told_reports.specs.declared.unit.UnitForm.{UnitForm}
use Rattle.unit_reports.specs.declared.units.UnitReport.{UnitReport}
use Rattle.load.specs.GivenPackages.{paths_of}
use Rattle.load.specs.LoadedBeside.{IsLoadBeside, IsLoadFaultBeside}
use Rattle.load.specs.Readings.{IsLoadedAs}
use Rattle.load.specs.declared.loaded.Loaded.{Loaded}
use Rattle.load.specs.declared.packages.GivenPackage.{GivenPackage}
use Rattle.meaning_reports.specs.Loaded.{LoadedPackage}
use Rattle.meaning_runs.specs.Promise.{AreTreesOfTexts}
use Rattle.vetx_tables.specs.declared.fault.KeptFault.{KeptFault}
use Rattle.vetx_tables.specs.declared.fault.KeptFault.TheVariants as kept_fault
use Rattle.whole_packages.specs.declared.loaded_package.LoadedPackage.{LoadedPackage as KeptPackage}

-- The package can be loaded, and nothing is declared of it. It is loaded: of its files, in the order of their names, is
-- kept what was read of them, and each tree is that of a text, but that its imports have the paths that are meant.
pub record IsLoadedAlone (outside : List PackageEntry) (given : GivenPackage) (kept : KeptPackage) : Type 0 where
  pub loaded : Loaded
  pub load : IsLoadBeside (given ∷ []) outside loaded
  pub is_only : loaded.packages.items ≡ kept ∷ []
  pub meant : LoadedPackage
  pub is_loaded
      : IsLoadedAs given.edition (string_bytes given.path) (paths_of given.imports) given.sources.items meant kept
  pub of_texts : AreTreesOfTexts meant

-- it is the report of what was loaded, in this form, by what was told of imports, and where that is declared of others
pub record IsReportOfUnit
    (form : UnitForm) (outside : List PackageEntry) (told : List ImportedUnit) (given : GivenPackage)
    (report : UnitReport)
    : Type 0 where
  pub kept : KeptPackage
  pub is_loaded : IsLoadedAlone outside given kept
  pub is_report : IsUnitReport form outside told kept report

-- it is loaded, and a number of a function of the table that it was judged by is not below 2^32
pub record HasLargeNumberIn (outside : List PackageEntry) (told : List ImportedUnit) (given : GivenPackage)
    : Type 0 where
  pub kept : KeptPackage
  pub is_loaded : IsLoadedAlone outside given kept
  pub is_large : HasLargeNumber outside told kept

-- why it has no report
abbrev pub IsUnitReportFault : List PackageEntry → List ImportedUnit → GivenPackage → UnitReportFault → Type 0
IsUnitReportFault outside told given (NotLoaded fault) = IsLoadFaultBeside (given ∷ []) outside fault
IsUnitReportFault outside told given TooLarge = HasLargeNumberIn outside told given
IsUnitReportFault outside told given OutOfMemory = ⊤

-- What serves the proofs

abbrev pub fault_of : KeptFault → UnitReportFault
fault_of kept_fault.TooLarge = TooLarge
fault_of kept_fault.OutOfMemory = OutOfMemory
