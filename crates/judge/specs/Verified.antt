-- The report of given packages by certificates, and why there is none.
use Rattle.std.specs.Prelude.{◌≡◌, ℕ, List, Option, None, Some, string_bytes}
use Rattle.told_reports.specs.Reports.{TellsReportBy}
use Rattle.told_reports.specs.declared.reports.Report.{Report}
use Rattle.cause_mentions.specs.CauseMentions.{first_with_causes}
use Rattle.certificate_json.specs.Certificates.{packages_of}
use Rattle.certificate_json.specs.declared.certificates.Certificates.{Certificates}
use Rattle.judge.specs.NotGiven.{TellNotGiven}
use Rattle.judge.specs.Reports.{IsReportBy}
use Rattle.judge.specs.declared.verified.Verified.{Verified}
use Rattle.judge.specs.declared.verified.Verified.TheVariants as verified
use Rattle.judge.specs.declared.verified.VerifyFault.{VerifyFault}
use Rattle.judge.specs.declared.verified.VerifyFault.TheVariants.{NotLoaded, TooOld}
use Rattle.load.specs.LoadedBeside.{IsLoadBeside, IsLoadFaultBeside}
use Rattle.load.specs.declared.loaded.Loaded.{Loaded}
use Rattle.load.specs.declared.packages.GivenPackage.{GivenPackage}
use Rattle.meaning_reports.specs.Loaded.{LoadedPackage, Tables}
use Rattle.declared_json.specs.DeclaredPackages.{PackageEntry}
use Rattle.accepting.specs.declared.telling.Telling.{Telling}
use Rattle.table_json.specs.declared.table.Version.{Version}
use Rattle.table_json.specs.declared.table.Version.TheVariants.{Older, Newer}
use Rattle.verifier.specs.GivenViews.{given_of, package_in}
use Rattle.verifier.specs.Rules.{GivenByPath, by_certificates}
use Rattle.whole_packages.specs.LoadedViews.{HaveDistinctPaths, TellPackages}
use Rattle.whole_packages.specs.declared.loaded_package.LoadedPackage.{LoadedPackage as KeptPackage}

-- what certificates give for the package of each path
abbrev pub given_in : Certificates → GivenByPath
given_in certificates path = given_of (package_in (packages_of certificates) path)

-- the path of the first package for which certificates of this version are too old
abbrev pub too_old : Version → List LoadedPackage → Option (List ℕ)
too_old Older ps = first_with_causes ps
too_old Newer ps = None

-- It is the report of the packages in this format by the certificates, which are too old for none of them, where that
-- is declared of other packages.
pub record IsVerifiedReport
    (telling : Telling) (outside : List PackageEntry) (given : List GivenPackage) (certificates : Certificates)
    (report : Report)
    : Type 0 where
  pub is_report : IsReportBy (by_certificates (given_in certificates)) telling outside given report
  pub none_is_too_old_for : too_old certificates.version is_report.load.load.meant ≡ None

-- The packages are loaded, nothing is declared of any of them, and the certificates are too old for the one of that
-- path.
pub record AreTooOld
    (outside : List PackageEntry) (given : List GivenPackage) (certificates : Certificates) (path : List ℕ)
    : Type 0 where
  pub loaded : Loaded
  pub load : IsLoadBeside given outside loaded
  pub is_first : too_old certificates.version load.load.meant ≡ Some path

-- why packages are not judged by certificates
abbrev pub IsVerifyFault : List PackageEntry → List GivenPackage → Certificates → VerifyFault → Type 0
IsVerifyFault outside given certificates (NotLoaded fault) = IsLoadFaultBeside given outside fault
IsVerifyFault outside given certificates (TooOld path) = AreTooOld outside given certificates (string_bytes path)

-- What serves the proofs: the same of packages in memory

abbrev pub IsTooOldFor : List KeptPackage → Certificates → Option (List ℕ) → Type 0
IsTooOldFor kept certificates found =
    (ps : List LoadedPackage) → TellPackages ps kept → HaveDistinctPaths ps → found ≡ too_old certificates.version ps

abbrev pub TellsVerified : Telling → Tables → List KeptPackage → Certificates → Verified → Type 0
TellsVerified telling declared kept certificates (verified.Told noted) =
    IsTooOldFor kept certificates None
    × TellsReportBy telling (by_certificates (given_in certificates) declared) kept noted.report
    × TellNotGiven kept noted.not_given.items
TellsVerified telling declared kept certificates (verified.IsTooOld path) =
    IsTooOldFor kept certificates (Some (string_bytes path))
