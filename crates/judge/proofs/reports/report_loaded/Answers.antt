use Rattle.std.proofs.Common.{IfOk, subst}
use Rattle.told_reports.specs.Reports.{TellsReport}
use Rattle.declared_tables.specs.DeclaredTables.{declared_tables}
use Rattle.declared_json.specs.DeclaredPackages.{packages_of}
use Rattle.judge.proofs.reports.report_loaded.Goals as goal

pub returns : goal.returns
returns c =
    let declared = declared_tables (packages_of c.args.loaded.outside) in
    subst (λ kept. IfOk c.whole_report-told.result (TellsReport c.args.telling declared kept)) c.deref.ensures.value
    c.whole_report-told.ensures
