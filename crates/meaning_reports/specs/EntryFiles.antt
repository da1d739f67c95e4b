-- Where entries stand: each entry of a report is of a file of its package, so that its line in the text of the report
-- begins with the name of that file.
use Rattle.std.specs.Prelude.{ℕ, ◌≡◌, ◌<◌, List, length, Some, slice_get, Contains}
use Rattle.report.specs.Entries.{Entry}
use Rattle.meaning_reports.specs.Loaded.{LoadedPackage, Tables}
use Rattle.meaning_reports.specs.WholeFaults.{HasNoWholeFault}
use Rattle.meaning_reports.specs.PackageReports.{SayingRule, Rules, Said, IsReportBy, by_paths}

-- the package at that place has the file that the entry is of
abbrev pub IsOfFile : List LoadedPackage → ℕ → Entry → Type 0
IsOfFile ps i x = (p : LoadedPackage) → slice_get ps i ≡ Some p → x.file < length p.files

-- what is said of the files of a package is said of one of them
abbrev pub AreSaidOfFiles : SayingRule → Type 0
AreSaidOfFiles says = (ps : List LoadedPackage) (tables : Tables) (i : ℕ) (x : Entry)
    → HasNoWholeFault ps i
    → says ps tables i x
    → IsOfFile ps i x

-- what is said of the package at that place
pub record IsSaidOf (ps : List LoadedPackage) (report : List Said) (p : LoadedPackage) (said : Said) : Type 0 where
  pub place : ℕ
  pub is_package : slice_get ps place ≡ Some p
  pub is_said : slice_get report place ≡ Some said

abbrev pub EntriesAreOfFilesBy : Rules → Type 0
EntriesAreOfFilesBy rules = (ps : List LoadedPackage) (report : List Said) (p : LoadedPackage) (said : Said) (x : Entry)
    → IsReportBy rules ps report
    → IsSaidOf ps report p said
    → Contains said.entries x
    → x.file < length p.files

abbrev pub EntriesAreOfFiles : Type 0
EntriesAreOfFiles = (declared : Tables) → EntriesAreOfFilesBy (by_paths declared)
