use Rattle.std.proofs.Common.{subst}
use Rattle.told_reports.specs.Reports.{TellsReportBy}
use Rattle.declared_tables.specs.DeclaredTables.{declared_tables}
use Rattle.declared_json.specs.DeclaredPackages.{packages_of}
use Rattle.verifier.specs.GivenViews.{given_of}
use Rattle.verifier.specs.Rules.{GivenByPath, by_certificates}
use Rattle.judge.proofs.verified.told_by.Goals as goal

pub returns-clause-report : goal.returns-clause-report
returns-clause-report c =
    let declared = declared_tables (packages_of c.args.outside.now) in
    subst
    (λ (given : GivenByPath).
    TellsReportBy c.args.telling (by_certificates given declared) c.args.packages.now c.in_ok-report.report)
    (λ i path. given_of (c.in_ok-rules.ensures path i))
    (record {
      said = c.in_ok-judged.judged.items;
      are_reports = c.in_ok-judged.ensures.reports;
      told = c.in_ok-report.ensures;
    })
