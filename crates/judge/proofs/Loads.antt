-- Packages that are loaded are kept as they are meant.
use Rattle.std.proofs.Common.{◌≡◌, List, refl, subst}
use Rattle.told_reports.specs.declared.reports.Report.{Report}
use Rattle.all_packages.specs.Reports.{AreReportsBy}
use Rattle.told_reports.specs.Reports.{TellsReportBy, TellsReport}
use Rattle.declared_tables.specs.DeclaredTables.{declared_tables}
use Rattle.judge.proofs.LoadedPackages.{are_as_many, each_loaded}
use Rattle.load.proofs.TreesOfTexts.{of_texts}
use Rattle.judge.proofs.QuietYes.{yes_are_quiet}
use Rattle.judge.proofs.SourcePlaces.{stand_in_sources}
use Rattle.judge.specs.QuietYes.{YesAreQuiet}
use Rattle.judge.specs.Reports.{IsReportBy, IsReport}
use Rattle.load.specs.GivenPackages.{IsLoad}
use Rattle.load.specs.LoadedBeside.{IsLoadBeside}
use Rattle.load.specs.declared.loaded.Loaded.{Loaded}
use Rattle.load.specs.declared.packages.GivenPackage.{GivenPackage}
use Rattle.meaning_reports.specs.Loaded.{Tables}
use Rattle.meaning_reports.specs.PackageReports.{Rules, by_paths}
use Rattle.meaning_runs.proofs.EntryPlaces.{entries_lie_in_files}
use Rattle.meaning_runs.proofs.PackageYes.{yes_of_a_package_is_quiet}
use Rattle.meaning_runs.specs.EntryPlaces.{EntriesLieInFilesBy}
use Rattle.meaning_runs.specs.PackageYes.{YesOfAPackageIsQuietBy}
use Rattle.declared_json.specs.DeclaredPackages.{PackageEntry, packages_of}
use Rattle.accepting.specs.declared.telling.Telling.{Telling}
use Rattle.whole_packages.specs.LoadedViews.{TellPackages}
use Rattle.whole_packages.specs.declared.loaded_package.LoadedPackage.{LoadedPackage as KeptPackage}

-- what is kept of loaded packages is what they are meant to be
pub tell_loaded : (given : List GivenPackage) (packages : List KeptPackage) (load : IsLoad given packages)
    → TellPackages load.meant packages
tell_loaded given packages load = record {
  are_as_many = are_as_many load.in_order load.meant packages load.are_loaded;
  each = λ i p k is_p is_k. (each_loaded load.in_order load.meant packages load.are_loaded i p k is_p is_k).loaded.tells;
}

-- by rules that take what is declared as it is, what is said of loaded packages is the report of those that were given
unfoldable pub is_report_by : (rules : Tables → Rules) (telling : Telling) (outside : List PackageEntry)
    → (rules (declared_tables outside)).declared ≡ declared_tables outside
    → YesOfAPackageIsQuietBy (rules (declared_tables outside))
    → EntriesLieInFilesBy (rules (declared_tables outside))
    → (given : List GivenPackage) (loaded : Loaded) (report : Report)
    → IsLoadBeside given outside loaded
    → TellsReportBy telling (rules (declared_tables outside)) loaded.packages.items report
    → IsReportBy rules telling outside given report
is_report_by rules telling outside same are_quiet they_lie given loaded report beside judged =
    let load : IsLoad given loaded.packages.items = beside.load in
    let reports : AreReportsBy (rules (declared_tables outside)) load.meant loaded.packages.items judged.said =
    judged.are_reports load.meant (tell_loaded given loaded.packages.items load) load.distinct in
    record {
      loaded = loaded;
      load = beside;
      said = judged.said;
      are_reports = reports;
      told = judged.told;
      placed =
          stand_in_sources (rules (declared_tables outside)) they_lie load.in_order load.meant loaded.packages.items
          judged.said load.are_loaded reports;
      quiet =
          subst (λ (d : Tables). YesAreQuiet d load.meant reports.is_report.tables judged.said) same
          (yes_are_quiet (rules (declared_tables outside)) are_quiet load.meant judged.said reports.is_report
          load.distinct (of_texts load.in_order load.meant loaded.packages.items load.are_loaded));
    }

-- what is said of them by paths is their report
pub is_report : (telling : Telling) (outside : List PackageEntry) (given : List GivenPackage) (loaded : Loaded)
    (report : Report)
    → IsLoadBeside given outside loaded
    → TellsReport telling (declared_tables (packages_of loaded.outside)) loaded.packages.items report
    → IsReport telling outside given report
is_report telling outside given loaded report beside told =
    let declared = declared_tables outside in
    is_report_by by_paths telling outside refl (yes_of_a_package_is_quiet declared) (entries_lie_in_files declared) given loaded
    report beside
    (subst (λ (es : List PackageEntry). TellsReport telling (declared_tables es) loaded.packages.items report)
    beside.is_outside told)
