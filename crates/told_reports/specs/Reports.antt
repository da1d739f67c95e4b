-- What the program tells of packages that were judged: a text, whether nothing is to be said of any of them, whether
-- each is told as yes or as accepted, and how much is told.
use Rattle.std.specs.Prelude.{ℕ, ◌≡◌, ◌-◌, ◌^◌, Bool, true, false, min, not, List, length, map, count_by, sum_by}
use Rattle.std.specs.List.{list_all}
use Rattle.accepting.specs.Findings.{FindingEntry, FoundEntry, is_accepted, passes, plain_package, verdict_of}
use Rattle.accepting.specs.Found.{told_in}
use Rattle.accepting.specs.Gone.{gone}
use Rattle.accepting.specs.declared.findings.Verdict.{Verdict}
use Rattle.accepting.specs.declared.findings.Verdict.TheVariants.{Yes, Accepted, No}
use Rattle.accepting.specs.declared.telling.Telling.{Telling}
use Rattle.all_packages.specs.Reports.{AreReportsBy, report_in}
use Rattle.baseline_json.specs.BaselineValues.{BaselineEntry, entry_of}
use Rattle.meaning_reports.specs.Loaded.{LoadedPackage, Tables}
use Rattle.meaning_reports.specs.PackageReports.{Rules, by_paths}
use Rattle.one_package.specs.Judgments.{is_yes}
use Rattle.one_package.specs.declared.judged.Judged.{Judged}
use Rattle.report.specs.declared.codes.Wording.{Wording}
use Rattle.report.specs.declared.codes.Wording.TheVariants.{First, Second}
use Rattle.report.specs.declared.diagnostics.PackageReport.{PackageReport}
use Rattle.report_formats.specs.Formats.{text_of}
use Rattle.told_reports.specs.declared.reports.Counts.{Counts}
use Rattle.told_reports.specs.declared.reports.Report.{Report}
use Rattle.whole_packages.specs.LoadedViews.{TellPackages, HaveDistinctPaths}
use Rattle.whole_packages.specs.declared.loaded_package.LoadedPackage.{LoadedPackage as KeptPackage}

-- the most that is counted
abbrev pub most_findings : ℕ
most_findings = 2 ^ 64 - 1

abbrev pub is_open : FindingEntry → Bool
is_open f = not (is_accepted f)

abbrev pub accepted_findings : List FindingEntry → ℕ
accepted_findings = count_by is_accepted

abbrev pub open_findings : List FindingEntry → ℕ
open_findings = count_by is_open

abbrev pub is_yes_verdict : Verdict → Bool
is_yes_verdict Yes = true
is_yes_verdict verdict = false

abbrev pub is_told_yes : FoundEntry → Bool
is_told_yes p = is_yes_verdict (verdict_of p.findings)

abbrev pub is_accepted_verdict : Verdict → Bool
is_accepted_verdict Accepted = true
is_accepted_verdict verdict = false

abbrev pub is_told_accepted : FoundEntry → Bool
is_told_accepted p = is_accepted_verdict (verdict_of p.findings)

abbrev pub package_passes : FoundEntry → Bool
package_passes p = passes (verdict_of p.findings)

-- the findings of an earlier run, and how many of them are gone: by the first edition of the rules none is looked for
abbrev pub known_in : Telling → List BaselineEntry
known_in telling = map entry_of telling.baseline.now

abbrev pub gone_by : Wording → List BaselineEntry → List FoundEntry → ℕ
gone_by First known found = 0
gone_by Second known found = gone known found

abbrev pub gone_in : Telling → List FoundEntry → ℕ
gone_in telling = gone_by telling.wording (known_in telling)

-- how many packages there are, how many of them are yes and how many accepted, how many findings there are on all, as
-- far as they are counted, and how many of an earlier run are gone
pub record AreCounted (gone : ℕ) (found : List FoundEntry) (counts : Counts) : Type 0 where
  pub packages : counts.packages ≡ length found
  pub yes : counts.yes ≡ count_by is_told_yes found
  pub accepted : counts.accepted ≡ count_by is_told_accepted found
  pub findings : counts.findings ≡ min (sum_by (λ p. open_findings p.findings) found) most_findings
  pub accepted_findings :
      counts.accepted_findings ≡ min (sum_by (λ p. accepted_findings p.findings) found) most_findings
  pub are_gone : counts.gone ≡ gone

-- This is told of packages, in which all that is accepted is found: the text without notes, whether each passes, and
-- the counts.
pub record IsToldOf (telling : Telling) (found : List FoundEntry) (report : Report) : Type 0 where
  pub is_text : report.text.items ≡ text_of telling false found
  pub passes : report.passes ≡ list_all package_passes found
  pub are_counted : AreCounted (gone_in telling found) found report.counts

-- and of packages of which this is said, but those that were not asked for, where `yes` tells whether nothing is to be
-- said of any package
pub record AreTold (telling : Telling) (reports : List PackageReport) (report : Report) : Type 0 where
  pub is_told : IsToldOf telling (told_in telling (map plain_package reports)) report
  pub verdict : report.yes ≡ list_all is_yes reports

abbrev pub IsTold : Telling → List Judged → Report → Type 0
IsTold telling said = AreTold telling (map report_in said)

-- it is the report, told so, of the packages that are kept so, whichever these are
pub record TellsReportBy (telling : Telling) (rules : Rules) (kept : List KeptPackage) (report : Report) : Type 0 where
  pub said : List Judged
  pub are_reports : (ps : List LoadedPackage)
      → TellPackages ps kept
      → HaveDistinctPaths ps
      → AreReportsBy rules ps kept said
  pub told : IsTold telling said report

abbrev pub TellsReport : Telling → Tables → List KeptPackage → Report → Type 0
TellsReport telling declared = TellsReportBy telling (by_paths declared)
