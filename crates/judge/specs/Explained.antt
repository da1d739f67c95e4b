-- The report of given packages, and its text with notes: it is the text of packages that say just what the report says
-- of them, and whose diagnostics of paths and uses have their own notes.
use Rattle.std.specs.Prelude.{◌≡◌, true, List, map}
use Rattle.accepting.specs.Findings.{explained_package}
use Rattle.told_reports.specs.Reports.{TellsReport}
use Rattle.declared_json.specs.DeclaredPackages.{PackageEntry}
use Rattle.declared_tables.specs.DeclaredTables.{declared_tables}
use Rattle.explanations.specs.Explained.{AreExplained}
use Rattle.explanations.specs.Plain.{judged_view, plain_view}
use Rattle.judge.specs.Reports.{IsReport}
use Rattle.judge.specs.declared.explained.ExplainedReport.{ExplainedReport}
use Rattle.load.specs.declared.packages.GivenPackage.{GivenPackage}
use Rattle.meaning_reports.specs.Loaded.{LoadedPackage, Tables}
use Rattle.report_formats.specs.Formats.{text_in}
use Rattle.accepting.specs.declared.telling.Telling.{Telling}
use Rattle.report.specs.declared.notes.ExplainedPackage.{ExplainedPackage}
use Rattle.whole_packages.specs.LoadedViews.{HaveDistinctPaths, TellPackages}
use Rattle.whole_packages.specs.declared.loaded_package.LoadedPackage.{LoadedPackage as KeptPackage}

-- It is the report of the given packages in this format, where that is declared of others, and the text is that of the
-- same packages with notes. Those of a diagnostic of a path tell a shortest way through a body of the package, and that
-- of a use tells the reason of just that use.
pub record IsExplainedReport
    (telling : Telling) (outside : List PackageEntry) (given : List GivenPackage) (told : ExplainedReport)
    : Type 0 where
  pub is_report : IsReport telling outside given told.report
  pub explained : List ExplainedPackage
  pub are_same : map plain_view explained ≡ map judged_view is_report.said
  pub are_explained : AreExplained (declared_tables outside) is_report.load.load.meant explained
  pub is_text : told.text.items ≡ text_in telling true (map explained_package explained)

-- What serves the proofs: the same of packages in memory

pub record TellsExplained (telling : Telling) (declared : Tables) (kept : List KeptPackage) (told : ExplainedReport)
    : Type 0 where
  pub tells_report : TellsReport telling declared kept told.report
  pub explained : List ExplainedPackage
  pub are_same : map plain_view explained ≡ map judged_view tells_report.said
  pub are_explained : (ps : List LoadedPackage)
      → TellPackages ps kept
      → HaveDistinctPaths ps
      → AreExplained declared ps explained
  pub is_text : told.text.items ≡ text_in telling true (map explained_package explained)
