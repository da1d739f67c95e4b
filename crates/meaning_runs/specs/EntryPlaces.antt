-- Where entries stand: where the trees of a package are those of its files' texts, and each fault for which a file has
-- no tree lies in its text, each entry of a report of the package is of one of these files, at an offset of its text or
-- at its end. So a line of the text of the report has the line and the column of the entry's offset.
use Rattle.std.specs.Prelude.{ℕ, ◌≡◌, List, Some, slice_get, Contains}
use Rattle.report.specs.Entries.{Entry}
use Rattle.meaning_reports.specs.Loaded.{LoadedPackage, Tables}
use Rattle.meaning_reports.specs.WholeFaults.{HasNoWholeFault}
use Rattle.meaning_reports.specs.PackageReports.{SayingRule, Rules, Said, IsReportBy, by_paths}
use Rattle.meaning_reports.specs.EntryFiles.{IsSaidOf}
use Rattle.meaning_runs.specs.FilePlaces.{AreTextsOf, StandsIn}

-- what is said of the files of a package stands in their texts
abbrev pub LieInFiles : SayingRule → Type 0
LieInFiles says = (ps : List LoadedPackage) (i : ℕ) (p : LoadedPackage) (texts : List (List ℕ))
    → slice_get ps i ≡ Some p → AreTextsOf texts p
    → (tables : Tables) (x : Entry) → HasNoWholeFault ps i → says ps tables i x
    → StandsIn texts x

abbrev pub EntriesLieInFilesBy : Rules → Type 0
EntriesLieInFilesBy rules = (ps : List LoadedPackage) (report : List Said) (p : LoadedPackage) (said : Said)
    (texts : List (List ℕ)) (x : Entry)
    → IsReportBy rules ps report
    → IsSaidOf ps report p said
    → AreTextsOf texts p
    → Contains said.entries x
    → StandsIn texts x

abbrev pub EntriesLieInFiles : Type 0
EntriesLieInFiles = (declared : Tables) → EntriesLieInFilesBy (by_paths declared)
