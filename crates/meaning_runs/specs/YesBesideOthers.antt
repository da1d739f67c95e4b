-- A yes holds too where packages that are not yes do anything that the environment may: of these nothing is believed,
-- not even that they do what their texts tell of tracked variables.
use Rattle.std.specs.Prelude.{◌==◌, ℕ, Bool, false, List, length, Option, Some, None, slice_get}
use Rattle.meaning_reports.specs.Loaded.{LoadedPackage, Tables}
use Rattle.meaning_reports.specs.PackageReports.{Rules, Said, IsReportBy, by_paths}
use Rattle.meaning_runs.specs.Bodies.{Program}
use Rattle.meaning_runs.specs.Runs.{IsQuietProgram}
use Rattle.meaning_runs.specs.PackageYes.{IsYesIn, program_of, AreOfTexts}

-- what the report says of a package: that is nothing
abbrev pub says_nothing : Option Said → Bool
says_nothing None = false
says_nothing (Some said) = length said.entries == 0

-- only those packages run of which the report says nothing; what others do, the environment does
abbrev pub program_beside : List LoadedPackage → List Said → Tables → Tables → ℕ → Program
program_beside ps report tables declared i =
    record (program_of ps tables declared i) { are_run = λ home. says_nothing (slice_get report home) }

-- Packages may share a path.
abbrev pub YesIsQuietBesideOthersBy : Rules → Type 0
YesIsQuietBesideOthersBy rules = (ps : List LoadedPackage) (report : List Said) (i : ℕ)
    → (is_report : IsReportBy rules ps report)
    → IsYesIn ps report i
    → AreOfTexts (program_beside ps report is_report.tables rules.declared i)
    → IsQuietProgram (program_beside ps report is_report.tables rules.declared i)

abbrev pub YesIsQuietBesideOthers : Type 0
YesIsQuietBesideOthers = (declared : Tables) → YesIsQuietBesideOthersBy (by_paths declared)
