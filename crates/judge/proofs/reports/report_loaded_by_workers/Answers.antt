use Rattle.std.proofs.Common.{IfErr, IfOk, length, subst}
use Rattle.judge.specs.NotGiven.{TellNotGiven}
use Rattle.told_reports.specs.Reports.{TellsReport}
use Rattle.declared_tables.specs.DeclaredTables.{declared_tables}
use Rattle.declared_json.specs.DeclaredPackages.{packages_of}
use Rattle.package_workers.specs.Faults.{IsFaultOf}
use Rattle.workers.specs.Counts.{count_of}
use Rattle.judge.proofs.reports.report_loaded_by_workers.Goals as goal

pub returns-clause-report : goal.returns-clause-report
returns-clause-report g c =
    let declared = declared_tables (packages_of c.args.loaded.outside) in
    subst
    (λ kept.
    IfOk c.whole_report_by_workers-report.result
    (λ noted. TellsReport c.args.settings.telling declared kept noted.report))
    c.deref.ensures.value c.whole_report_by_workers-report.ensures.report

pub returns-clause-not_given : goal.returns-clause-not_given
returns-clause-not_given g c =
    subst (λ kept. IfOk c.whole_report_by_workers-report.result (λ noted. TellNotGiven kept noted.not_given.items))
    c.deref.ensures.value c.whole_report_by_workers-report.ensures.not_given

pub returns-clause-fault : goal.returns-clause-fault
returns-clause-fault g c =
    subst (λ kept. IfErr c.whole_report_by_workers-report.result (IsFaultOf (count_of c.args.settings.workers) (length kept)))
    c.deref.ensures.value c.whole_report_by_workers-report.ensures.fault
