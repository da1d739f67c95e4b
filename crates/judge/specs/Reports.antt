-- The report of given packages, which are loaded in the order of their paths, beside what is declared of others: its
-- text in some format, whether each is yes, its counts, that what is said stands in the sources, and what a yes says of
-- runs. Their files may be judged by any rules; `check` judges them by the paths of bodies. How far there is one such
-- report says `OneReport.antt`.
use Rattle.std.specs.Prelude.{List}
use Rattle.declared_tables.specs.DeclaredTables.{declared_tables}
use Rattle.load.specs.declared.loaded.Loaded.{Loaded}
use Rattle.load.specs.declared.packages.GivenPackage.{GivenPackage}
use Rattle.load.specs.LoadedBeside.{IsLoadBeside}
use Rattle.one_package.specs.declared.judged.Judged.{Judged}
use Rattle.all_packages.specs.Reports.{AreReportsBy}
use Rattle.told_reports.specs.Reports.{IsTold}
pub use Rattle.told_reports.specs.declared.reports.Report.{Report}
use Rattle.meaning_reports.specs.Loaded.{Tables}
use Rattle.meaning_reports.specs.PackageReports.{Rules, by_paths}
use Rattle.declared_json.specs.DeclaredPackages.{PackageEntry}
use Rattle.accepting.specs.declared.telling.Telling.{Telling}
use Rattle.judge.specs.QuietYes.{YesAreQuiet}
use Rattle.judge.specs.SourcePlaces.{StandInSources}

-- The given packages are loaded in the order of their paths, as their files are read; nothing is declared of any of
-- them; and it is their report by these rules in this format, where that is declared of others.
pub record IsReportBy
    (rules : Tables → Rules) (telling : Telling) (outside : List PackageEntry) (given : List GivenPackage)
    (report : Report)
    : Type 0 where
  pub loaded : Loaded
  pub load : IsLoadBeside given outside loaded
  pub said : List Judged
  pub are_reports : AreReportsBy (rules (declared_tables outside)) load.load.meant loaded.packages.items said
  pub told : IsTold telling said report
  pub placed : StandInSources said
  pub quiet : YesAreQuiet (declared_tables outside) load.load.meant are_reports.is_report.tables said

abbrev pub IsReport : Telling → List PackageEntry → List GivenPackage → Report → Type 0
IsReport = IsReportBy by_paths
