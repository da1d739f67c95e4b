-- What the program says of packages that were judged, and what it stands for.
use Rattle.std.specs.Prelude.{ℕ, ◌≡◌, List, map, Some, slice_get}
use Rattle.whole_packages.specs.declared.loaded_package.LoadedPackage.{LoadedPackage as KeptPackage}
use Rattle.meaning_reports.specs.Loaded.{LoadedPackage, Tables}
use Rattle.meaning_reports.specs.PackageReports.{Rules, IsReportBy, by_paths}
use Rattle.report.specs.declared.diagnostics.PackageReport.{PackageReport}
use Rattle.one_package.specs.declared.judged.Judged.{Judged}
use Rattle.one_package.specs.Certified.{CertificateRule, AreCertified}
use Rattle.one_package.specs.Judgments.{said_view, TellsSources}

abbrev pub report_in : Judged → PackageReport
report_in judged = judged.report

-- what is said is the report of the packages, each with its sources
pub record AreReportsBy (rules : Rules) (ps : List LoadedPackage) (kept : List KeptPackage) (said : List Judged)
    : Type 0 where
  pub is_report : IsReportBy rules ps (map said_view said)
  pub are_told : (i : ℕ) (k : KeptPackage) (j : Judged) → slice_get kept i ≡ Some k → slice_get said i ≡ Some j
      → TellsSources k j

-- the certificates of each package, in their order, are as the rule says
abbrev pub AreAllCertified : Rules → CertificateRule → List LoadedPackage → List Judged → Type 0
AreAllCertified rules rule ps said = (i : ℕ) (p : LoadedPackage) (judged : Judged)
    → slice_get ps i ≡ Some p
    → slice_get said i ≡ Some judged
    → AreCertified rules rule ps i p judged

abbrev pub AreReports : Tables → List LoadedPackage → List KeptPackage → List Judged → Type 0
AreReports declared = AreReportsBy (by_paths declared)
