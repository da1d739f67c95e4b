-- What is told of loaded packages with notes is so of those that were given.
use Rattle.std.proofs.Common.{List, refl, subst}
use Rattle.declared_tables.specs.DeclaredTables.{declared_tables}
use Rattle.judge.proofs.Loads.{tell_loaded, is_report_by}
use Rattle.judge.specs.Explained.{IsExplainedReport, TellsExplained}
use Rattle.judge.specs.declared.explained.ExplainedReport.{ExplainedReport}
use Rattle.load.specs.LoadedBeside.{IsLoadBeside}
use Rattle.load.specs.declared.loaded.Loaded.{Loaded}
use Rattle.load.specs.declared.packages.GivenPackage.{GivenPackage}
use Rattle.meaning_reports.specs.PackageReports.{by_paths}
use Rattle.meaning_runs.proofs.EntryPlaces.{entries_lie_in_files}
use Rattle.meaning_runs.proofs.PackageYes.{yes_of_a_package_is_quiet}
use Rattle.declared_json.specs.DeclaredPackages.{PackageEntry, packages_of}
use Rattle.accepting.specs.declared.telling.Telling.{Telling}

explained_so : (telling : Telling) (outside : List PackageEntry) (given : List GivenPackage) (loaded : Loaded)
    (told : ExplainedReport)
    → IsLoadBeside given outside loaded
    → TellsExplained telling (declared_tables outside) loaded.packages.items told
    → IsExplainedReport telling outside given told
unfolding is_report_by
explained_so telling outside given loaded told beside tells =
    let declared = declared_tables outside in
    record {
      is_report =
          is_report_by by_paths telling outside refl (yes_of_a_package_is_quiet declared) (entries_lie_in_files declared) given
          loaded told.report beside tells.tells_report;
      explained = tells.explained;
      are_same = tells.are_same;
      are_explained = tells.are_explained beside.load.meant (tell_loaded given loaded.packages.items beside.load)
          beside.load.distinct;
      is_text = tells.is_text;
    }

pub is_explained : (telling : Telling) (outside : List PackageEntry) (given : List GivenPackage) (loaded : Loaded)
    (told : ExplainedReport)
    → IsLoadBeside given outside loaded
    → TellsExplained telling (declared_tables (packages_of loaded.outside)) loaded.packages.items told
    → IsExplainedReport telling outside given told
is_explained telling outside given loaded told beside tells =
    explained_so telling outside given loaded told beside
    (subst (λ (es : List PackageEntry). TellsExplained telling (declared_tables es) loaded.packages.items told)
    beside.is_outside tells)
