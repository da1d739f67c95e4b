-- `verify` as rules by which a report is made of packages (`meaning_reports/specs/PackageReports.antt`): which flags a
-- package has, and what is said of its files, by the certificates that are given for it. What is declared of packages
-- that were not given is taken for true, as by `check`: certificates say nothing of it.
use Rattle.std.specs.Prelude.{ℕ, ◌≡◌, List, map, Some, slice_get}
use Rattle.meaning_packages.specs.CallsFlags.{Flags, FileWithCredits, calls_by}
use Rattle.meaning_reports.specs.Loaded.{LoadedPackage, Tables, imported_flags, seen_files}
use Rattle.meaning_reports.specs.PackageReports.{Rules}
use Rattle.report.specs.Entries.{Entry}
use Rattle.verifier.specs.Verified.{Given, AreClaimed, AreGivenCredits, IsSaid}

-- what is given for the package of each path
abbrev pub GivenByPath : Type 0
GivenByPath = List ℕ → Given

-- these are the package's files, each with the credits of its certificates, and these the flags that are claimed
pub record IsVerified
    (given : GivenByPath) (ps : List LoadedPackage) (tables : Tables) (i : ℕ) (p : LoadedPackage)
    (files : List FileWithCredits) (flags : Flags)
    : Type 0 where
  pub is_package : slice_get ps i ≡ Some p
  pub are_seen : map (λ f. f.seen) files ≡ seen_files ps tables p
  pub are_flags : AreClaimed files (given p.path) flags
  pub are_credits : (number : ℕ) (file : FileWithCredits)
      → slice_get files number ≡ Some file
      → AreGivenCredits (given p.path) flags (calls_by flags (imported_flags p tables)) number file

-- the flags that are claimed
pub record AreFlagsByCertificates
    (given : GivenByPath) (ps : List LoadedPackage) (tables : Tables) (i : ℕ) (p : LoadedPackage) (flags : Flags)
    : Type 0 where
  pub files : List FileWithCredits
  pub is_verified : IsVerified given ps tables i p files flags

-- what is said of one of the files
pub record SaysByCertificates (given : GivenByPath) (ps : List LoadedPackage) (tables : Tables) (i : ℕ) (x : Entry)
    : Type 0 where
  pub loaded : LoadedPackage
  pub files : List FileWithCredits
  pub flags : Flags
  pub is_verified : IsVerified given ps tables i loaded files flags
  pub number : ℕ
  pub file : FileWithCredits
  pub is_file : slice_get files number ≡ Some file
  pub is_said : IsSaid (given loaded.path) flags (calls_by flags (imported_flags loaded tables)) number file x

abbrev pub by_certificates : GivenByPath → Tables → Rules
by_certificates given declared = record {
  are_flags = AreFlagsByCertificates given;
  says = SaysByCertificates given;
  declared = declared;
}
