-- What `check` and `verify` have to do with each other, said of the bytes of files: of given packages, the text of
-- their certificates, and the reports that are made of these. A package is told by its place in the order of import
-- paths, which is the same in all reports of them.
use Rattle.std.specs.Prelude.{ℕ, ◌≡◌, ◌↔◌, List}
use Rattle.judge.specs.FullCredits.{HaveFullCredits}
use Rattle.certificate_json.specs.CertificateTexts.{AreCertificatesOf}
use Rattle.certificate_json.specs.Certificates.{PackageEntry as CertifiedPackage, packages_of}
use Rattle.certificate_json.specs.declared.certificates.Certificates.{Certificates}
use Rattle.declared_tables.specs.DeclaredTables.{declared_tables}
use Rattle.judge.specs.Certified.{IsCertifiedReport}
use Rattle.judge.specs.QuietYes.{IsToldYes}
use Rattle.judge.specs.Reports.{Report, IsReportBy, IsReport}
use Rattle.judge.specs.Verified.{given_in, IsVerifiedReport, AreTooOld}
use Rattle.load.specs.declared.packages.GivenPackage.{GivenPackage}
use Rattle.meaning_reports.specs.Loaded.{Tables}
use Rattle.meaning_reports.specs.PackageReports.{Rules}
use Rattle.meaning_runs.specs.Bodies.{Program}
use Rattle.meaning_runs.specs.PackageYes.{program_of}
use Rattle.declared_json.specs.DeclaredPackages.{PackageEntry}
use Rattle.accepting.specs.declared.telling.Telling.{Telling}
use Rattle.table_json.specs.declared.table.Version.{Version}

module _
    {rules : Tables → Rules} {telling : Telling} {outside : List PackageEntry} {given : List GivenPackage}
    {report : Report} (is_report : IsReportBy rules telling outside given report) where
  -- the report says yes of the package at that place
  abbrev pub SaysYesOf : ℕ → Type 0
  SaysYesOf i = IsToldYes is_report.load.load.meant is_report.said i

  -- that package, with all that the report knows of functions
  abbrev pub program_in : ℕ → Program
  program_in i =
      program_of is_report.load.load.meant is_report.are_reports.is_report.tables (declared_tables outside) i

-- these certificates are read of the text, which is that of no others
abbrev pub AreReadOf : List ℕ → Certificates → Type 0
AreReadOf text certificates = (version : Version) (packages : List CertifiedPackage)
    → AreCertificatesOf text version packages
    → (version ≡ certificates.version) × (packages ≡ packages_of certificates)

-- By the certificates that `check` writes, `verify` says yes of exactly the packages of which `check` does, each in any
-- format.
module _
    (telling other : Telling) (outside : List PackageEntry) (given : List GivenPackage) (text : List ℕ)
    (certificates : Certificates) (checked verified : Report)
    (is_checked : IsCertifiedReport telling outside given checked text) where
  pub record CertificatesAreBelieved : Type 0 where
    pub of_each : (is_verified : IsVerifiedReport other outside given certificates verified) (i : ℕ)
        → SaysYesOf is_checked.is_report i ↔ SaysYesOf is_verified.is_report i
    -- so it says yes of all of them exactly where `check` does
    pub of_all : IsVerifiedReport other outside given certificates verified → checked.yes ≡ verified.yes
    -- and they are too old for none of them
    pub of_none_too_old : (path : List ℕ) → AreTooOld outside given certificates path → ⊥

abbrev pub WrittenCertificatesAreBelieved : Type 0
WrittenCertificatesAreBelieved =
    (telling other : Telling) (outside : List PackageEntry) (given : List GivenPackage) (text : List ℕ)
    (certificates : Certificates) (checked verified : Report)
    → (is_checked : IsCertifiedReport telling outside given checked text)
    → AreReadOf text certificates
    → CertificatesAreBelieved telling other outside given text certificates checked verified is_checked

-- By whatever certificates: where these rely on all that may be relied on, in a package and in every given package
-- below it, a yes of `verify` is one of `check`.
abbrev pub FullCreditsAreBelieved : Type 0
FullCreditsAreBelieved =
    (telling other : Telling) (outside : List PackageEntry) (given : List GivenPackage) (certificates : Certificates)
    (checked verified : Report) (i : ℕ)
    → (is_checked : IsReport telling outside given checked)
    → (is_verified : IsVerifiedReport other outside given certificates verified)
    → HaveFullCredits (given_in certificates) (program_in is_verified.is_report i)
    → SaysYesOf is_verified.is_report i
    → SaysYesOf is_checked i
