-- What `check` and `verify` have to do with each other, of packages. Where what is given for each package is what
-- `check` makes of it, and the same is declared of others, the reports of both say yes of the same packages, and know
-- the same of their functions.
use Rattle.std.specs.Prelude.{ℕ, ◌≡◌, ◌↔◌, List, Some, slice_get}
use Rattle.judge.specs.AgreementLaws.{GivesLeast}
use Rattle.meaning_packages.specs.CallsFlags.{Flags, FileWithCredits, calls_by}
use Rattle.meaning_reports.specs.Loaded.{LoadedPackage, Tables, imported_flags}
use Rattle.meaning_reports.specs.PackageReports.{Said, IsReportBy, by_paths}
use Rattle.meaning_reports.specs.PackageTables.{IsJudged}
use Rattle.meaning_runs.specs.PackageYes.{IsYesIn}
use Rattle.meaning_runs.specs.Promise.{AreTreesOfTexts}
use Rattle.verifier.specs.Rules.{GivenByPath, by_certificates}
use Rattle.verifier.specs.Verified.{Given, AreClaimed}

-- Of a package with these files and flags: what is claimed, and may be known, is just what the flags say; and the rows
-- are those of the least certificates.
pub record IsGivenByPaths
    (given : Given) (tables : Tables) (p : LoadedPackage) (files : List FileWithCredits) (flags : Flags)
    : Type 0 where
  pub are_claimed : AreClaimed files given flags
  pub give_least : (number : ℕ) (file : FileWithCredits)
      → slice_get files number ≡ Some file
      → GivesLeast given (calls_by flags (imported_flags p tables)) number file

-- so it is of each package that is judged
abbrev pub AreGivenByPaths : GivenByPath → List LoadedPackage → Tables → Type 0
AreGivenByPaths given ps tables = (i : ℕ) (p : LoadedPackage) (files : List FileWithCredits) (flags : Flags)
    → IsJudged ps tables i p files flags
    → IsGivenByPaths (given p.path) tables p files flags

abbrev pub ReportsAgree : Type 0
ReportsAgree = (declared : Tables) (given : GivenByPath) (ps : List LoadedPackage) (checked verified : List Said)
    → (is_checked : IsReportBy (by_paths declared) ps checked)
    → (is_verified : IsReportBy (by_certificates given declared) ps verified)
    → ((i : ℕ) (p : LoadedPackage) → slice_get ps i ≡ Some p → AreTreesOfTexts p)
    → AreGivenByPaths given ps is_checked.tables
    → (is_checked.tables ≡ is_verified.tables) × ((i : ℕ) → IsYesIn ps checked i ↔ IsYesIn ps verified i)
