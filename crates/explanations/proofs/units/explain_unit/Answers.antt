use Rattle.std.proofs.Common.{refl, subst}
use Rattle.std.proofs.lemmas.Result.{IfOk-weaker}
use Rattle.explanations.specs.PackageReasons.{ArePackageReasons}
use Rattle.meaning_reports.specs.PackageReports.{by_paths}
use Rattle.one_package.proofs.ImportedTables.{tables_by_told}
use Rattle.given_packages.specs.Neighbours.{nearby_view}
use Rattle.explanations.proofs.units.explain_unit.Goals as goal

pub returns-clause-notes : goal.returns-clause-notes
returns-clause-notes c =
    IfOk-weaker c.explained_report.result _ _
    (λ explained so declared ps i p told near is_p tells knows are follows tables have.
    let around = c.around_beside-around.ensures.known declared ps tables p told near knows
    (tables_by_told ps i p is_p (nearby_view c.args.near) declared near told tables (by_paths declared) refl are have)
    are.are_marked in
    so declared ps tables i p (follows tables have).are_findings
    (λ none. subst (λ ds. ArePackageReasons ps tables i p ds c.in_ok-reasons.reasons) c.deref.ensures.value
    (c.in_ok-reasons.ensures ps tables i p is_p tells around none)))
    c.explained_report.ensures.notes
