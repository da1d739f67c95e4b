-- The report of given packages, and the text of their certificates: of each package its table, and the least
-- certificates of its bodies.
use Rattle.std.specs.Prelude.{ℕ, List, string_bytes}
use Rattle.all_certificates.specs.CertifiedPackages.{AreCertificatesOfAll}
use Rattle.told_reports.specs.Reports.{TellsReport}
use Rattle.certificate_json.specs.Certificates.{PackageEntry}
use Rattle.certificate_json.specs.WrittenCertificates.{IsWrittenText}
use Rattle.declared_tables.specs.DeclaredTables.{declared_tables}
use Rattle.judge.specs.Reports.{Report, IsReport}
use Rattle.judge.specs.declared.certified.CertifiedReport.{CertifiedReport}
use Rattle.load.specs.declared.packages.GivenPackage.{GivenPackage}
use Rattle.meaning_reports.specs.Loaded.{LoadedPackage, Tables}
use Rattle.declared_json.specs.DeclaredPackages.{PackageEntry as DeclaredEntry}
use Rattle.accepting.specs.declared.telling.Telling.{Telling}
use Rattle.whole_packages.specs.LoadedViews.{TellPackages, HaveDistinctPaths}
use Rattle.whole_packages.specs.declared.loaded_package.LoadedPackage.{LoadedPackage as KeptPackage}

-- It is the report of the given packages in this format, where that is declared of others, and the text is that of
-- their certificates.
pub record IsCertifiedReport
    (telling : Telling) (outside : List DeclaredEntry) (given : List GivenPackage) (report : Report) (text : List ℕ)
    : Type 0 where
  pub is_report : IsReport telling outside given report
  pub entries : List PackageEntry
  pub are_certificates : AreCertificatesOfAll (declared_tables outside) is_report.load.load.meant entries
  pub is_text : IsWrittenText entries text

-- What serves the proofs: the same of packages in memory

pub record TellsCertifiedText (telling : Telling) (declared : Tables) (kept : List KeptPackage) (told : CertifiedReport)
    : Type 0 where
  pub tells_report : TellsReport telling declared kept told.report
  pub entries : List PackageEntry
  pub are_certificates : (ps : List LoadedPackage)
      → TellPackages ps kept
      → HaveDistinctPaths ps
      → AreCertificatesOfAll declared ps entries
  pub is_text : IsWrittenText entries (string_bytes told.certificates)
