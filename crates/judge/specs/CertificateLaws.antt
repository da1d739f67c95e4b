-- What `check` and `verify` have to do with each other, by the certificates that `check` makes of packages: the reports
-- of both say yes of the same packages, where the same is declared of packages that were not given.
use Rattle.std.specs.Prelude.{ℕ, ◌≡◌, ◌↔◌, ◌<◌, ◌≤◌, ◌^◌, true, List, length, Some, slice_get}
use Rattle.all_certificates.specs.CertifiedPackages.{AreCertificatesOfAll}
use Rattle.certificate_json.specs.Certificates.{PackageEntry}
use Rattle.meaning_reports.specs.Loaded.{LoadedPackage, Tables, trees_of}
use Rattle.meaning_reports.specs.PackageReports.{Said, IsReportBy, by_paths}
use Rattle.meaning_runs.specs.PackageYes.{IsYesIn}
use Rattle.meaning_runs.specs.Promise.{AreTreesOfTexts}
use Rattle.verifier.specs.GivenViews.{given_of, package_in}
use Rattle.verifier.specs.Rules.{GivenByPath, by_certificates}
use Rattle.whole_packages.specs.LoadedViews.{HaveDistinctPaths}

-- what these certificates give for the package of each path
abbrev pub given_in : List PackageEntry → GivenByPath
given_in entries path = given_of (package_in entries path)

-- the numbers of the package's files can be written, and the positions of parameters that are known to be called
pub record CanBeWritten (tables : Tables) (p : LoadedPackage) : Type 0 where
  pub files_fit : length (trees_of p) ≤ 2 ^ 32
  pub positions_fit : (name : List ℕ) (k : ℕ) → (tables p.path).calls name k ≡ true → k < 2 ^ 32

abbrev pub CertificatesAgree : Type 0
CertificatesAgree =
    (declared : Tables) (ps : List LoadedPackage) (entries : List PackageEntry) (checked verified : List Said)
    → (is_checked : IsReportBy (by_paths declared) ps checked)
    → (is_verified : IsReportBy (by_certificates (given_in entries) declared) ps verified)
    → HaveDistinctPaths ps
    → AreCertificatesOfAll declared ps entries
    → ((i : ℕ) (p : LoadedPackage) → slice_get ps i ≡ Some p → AreTreesOfTexts p)
    → ((i : ℕ) (p : LoadedPackage) → slice_get ps i ≡ Some p → CanBeWritten is_checked.tables p)
    → (is_checked.tables ≡ is_verified.tables) × ((i : ℕ) → IsYesIn ps checked i ↔ IsYesIn ps verified i)
