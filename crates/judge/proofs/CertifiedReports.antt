-- What is told of loaded packages with their certificates is so of those that were given.
use Rattle.std.proofs.Common.{List, refl, subst}
use Rattle.std.specs.Prelude.{string_bytes}
use Rattle.declared_tables.specs.DeclaredTables.{declared_tables}
use Rattle.judge.proofs.Loads.{tell_loaded, is_report_by}
use Rattle.judge.specs.Certified.{IsCertifiedReport, TellsCertifiedText}
use Rattle.judge.specs.declared.certified.CertifiedReport.{CertifiedReport}
use Rattle.load.specs.LoadedBeside.{IsLoadBeside}
use Rattle.load.specs.declared.loaded.Loaded.{Loaded}
use Rattle.load.specs.declared.packages.GivenPackage.{GivenPackage}
use Rattle.meaning_reports.specs.PackageReports.{by_paths}
use Rattle.meaning_runs.proofs.EntryPlaces.{entries_lie_in_files}
use Rattle.meaning_runs.proofs.PackageYes.{yes_of_a_package_is_quiet}
use Rattle.declared_json.specs.DeclaredPackages.{PackageEntry, packages_of}
use Rattle.accepting.specs.declared.telling.Telling.{Telling}

certified_so : (telling : Telling) (outside : List PackageEntry) (given : List GivenPackage) (loaded : Loaded)
    (told : CertifiedReport)
    → IsLoadBeside given outside loaded
    → TellsCertifiedText telling (declared_tables outside) loaded.packages.items told
    → IsCertifiedReport telling outside given told.report (string_bytes told.certificates)
unfolding is_report_by
certified_so telling outside given loaded told beside tells =
    let declared = declared_tables outside in
    record {
      is_report =
          is_report_by by_paths telling outside refl (yes_of_a_package_is_quiet declared) (entries_lie_in_files declared) given
          loaded told.report beside tells.tells_report;
      entries = tells.entries;
      are_certificates =
          tells.are_certificates beside.load.meant (tell_loaded given loaded.packages.items beside.load)
          beside.load.distinct;
      is_text = tells.is_text;
    }

pub is_certified : (telling : Telling) (outside : List PackageEntry) (given : List GivenPackage) (loaded : Loaded)
    (told : CertifiedReport)
    → IsLoadBeside given outside loaded
    → TellsCertifiedText telling (declared_tables (packages_of loaded.outside)) loaded.packages.items told
    → IsCertifiedReport telling outside given told.report (string_bytes told.certificates)
is_certified telling outside given loaded told beside tells =
    certified_so telling outside given loaded told beside
    (subst (λ (es : List PackageEntry). TellsCertifiedText telling (declared_tables es) loaded.packages.items told)
    beside.is_outside tells)
