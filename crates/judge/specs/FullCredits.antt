-- What `check` and `verify` have to do with each other, by whatever certificates: where these rely on all that may be
-- relied on of literals, a yes of `verify` is one of `check`. They need not be the least, and need not claim all that
-- could be known of functions.
use Rattle.std.specs.Prelude.{ℕ, ◌≡◌, List, Some, slice_get, Contains}
use Rattle.meaning_packages.specs.CallsFlags.{Flags, FileWithCredits}
use Rattle.meaning_packages.specs.Credits.{AreFullCredits}
use Rattle.meaning_reports.specs.Loaded.{LoadedPackage, Tables}
use Rattle.meaning_reports.specs.PackageReports.{Said, IsReportBy, by_paths}
use Rattle.meaning_runs.specs.Bodies.{Program, IsBelow}
use Rattle.meaning_runs.specs.PackageYes.{IsYesIn, program_of}
use Rattle.meaning_runs.specs.Promise.{AreTreesOfTexts}
use Rattle.verifier.specs.Rules.{GivenByPath, IsVerified, by_certificates}

-- the credits by the certificates of the package at that place are the full ones, in each of its files
abbrev pub HasFullCredits : GivenByPath → List LoadedPackage → Tables → ℕ → Type 0
HasFullCredits given ps tables i =
    (p : LoadedPackage) (files : List FileWithCredits) (flags : Flags) (file : FileWithCredits)
    → IsVerified given ps tables i p files flags
    → Contains files file
    → AreFullCredits file.seen file.credits

-- the trees of the package that is looked at, and of each given package below it, are those of texts
abbrev pub AreOfTextsBelow : Program → Type 0
AreOfTextsBelow p =
    (j : ℕ) (q : LoadedPackage) → IsBelow p j → slice_get p.packages j ≡ Some q → AreTreesOfTexts q

-- and so are the credits of each
abbrev pub HaveFullCredits : GivenByPath → Program → Type 0
HaveFullCredits given p = (j : ℕ) → IsBelow p j → HasFullCredits given p.packages p.tables j

abbrev pub YesWithFullCreditsIsYes : Type 0
YesWithFullCreditsIsYes =
    (declared : Tables) (given : GivenByPath) (ps : List LoadedPackage) (checked verified : List Said) (i : ℕ)
    → IsReportBy (by_paths declared) ps checked
    → (is_verified : IsReportBy (by_certificates given declared) ps verified)
    → AreOfTextsBelow (program_of ps is_verified.tables declared i)
    → HaveFullCredits given (program_of ps is_verified.tables declared i)
    → IsYesIn ps verified i
    → IsYesIn ps checked i
