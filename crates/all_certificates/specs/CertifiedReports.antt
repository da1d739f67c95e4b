-- A report with certificates.
use Rattle.std.specs.Prelude.{List}
use Rattle.all_certificates.specs.CertifiedPackages.{AreCertificatesOfAll}
use Rattle.all_certificates.specs.declared.certified.Certified.{Certified}
use Rattle.told_reports.specs.Reports.{TellsReport}
use Rattle.certificate_json.specs.Certificates.{packages_of}
use Rattle.meaning_reports.specs.Loaded.{LoadedPackage, Tables}
use Rattle.accepting.specs.declared.telling.Telling.{Telling}
use Rattle.whole_packages.specs.LoadedViews.{TellPackages, HaveDistinctPaths}
use Rattle.whole_packages.specs.declared.loaded_package.LoadedPackage.{LoadedPackage as KeptPackage}

-- it is the report in this format of the packages that are kept so, whichever these are, with their certificates, where
-- this is declared of packages that are not among them
pub record TellsCertified (telling : Telling) (declared : Tables) (kept : List KeptPackage) (certified : Certified)
    : Type 0 where
  pub tells_report : TellsReport telling declared kept certified.report
  pub are_certificates : (ps : List LoadedPackage)
      → TellPackages ps kept
      → HaveDistinctPaths ps
      → AreCertificatesOfAll declared ps (packages_of certified.certificates)
