-- Where the first edition judges all packages, a yes is one of each given package below too: an import that isn't yes
-- would be said. So none of these has a finding.
use Rattle.std.specs.Prelude.{◌≡◌, ℕ, List, Some, slice_get}
use Rattle.tree.specs.declared.edition.Edition.TheVariants.{First}
use Rattle.meaning_reports.specs.Loaded.{LoadedPackage, Tables}
use Rattle.meaning_reports.specs.PackageReports.{Rules, Said, IsReportBy, by_paths}
use Rattle.meaning_runs.specs.Bodies.{IsBelow}
use Rattle.meaning_runs.specs.Promise.{HaveNoFindings}
use Rattle.meaning_runs.specs.PackageYes.{IsYesIn, program_of, AreOfTexts}

abbrev pub YesIsOfAllBelowBy : Rules → Type 0
YesIsOfAllBelowBy rules = (ps : List LoadedPackage) (report : List Said) (i : ℕ)
    → (is_report : IsReportBy rules ps report)
    → IsYesIn ps report i
    → ((j : ℕ) (p : LoadedPackage) → slice_get ps j ≡ Some p → p.edition ≡ First)
    → AreOfTexts (program_of ps is_report.tables rules.declared i)
    → HaveNoFindings (program_of ps is_report.tables rules.declared i)
    (IsBelow (program_of ps is_report.tables rules.declared i))

abbrev pub YesIsOfAllBelow : Type 0
YesIsOfAllBelow = (declared : Tables) → YesIsOfAllBelowBy (by_paths declared)
