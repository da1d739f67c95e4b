use Rattle.std.proofs.Common.{sym, subst}
use Rattle.declared_json.specs.DeclaredPackages.{packages_of}
use Rattle.unit_reports.proofs.OneUnit.{is_report, is_fault}
use Rattle.unit_reports.specs.OneUnit.{IsUnitReportFault}
use Rattle.load.specs.LoadedBeside.{IsLoadBeside}
use Rattle.unit_reports.proofs.one_unit.report_of_unit.Goals as goal

pub returns-in-Ok-unit_report_loaded-clause-report : goal.returns-in-Ok-unit_report_loaded-clause-report
returns-in-Ok-unit_report_loaded-clause-report g c =
    let outside = packages_of c.args.outside in
    let loaded = c.in-Ok-load_beside.loaded in
    is_report outside c.args.given loaded
    (subst (λ given. IsLoadBeside given outside loaded) c.in-Ok.ensures c.in-Ok-load_beside.ensures.loaded) c.args.form
    c.args.told.now c.in-Ok-unit_report_loaded.report c.in-Ok-unit_report_loaded.ensures.report

pub returns-in-Err-unit_report_loaded-clause-fault : goal.returns-in-Err-unit_report_loaded-clause-fault
returns-in-Err-unit_report_loaded-clause-fault g c =
    let outside = packages_of c.args.outside in
    let loaded = c.in-Ok-load_beside.loaded in
    subst (IsUnitReportFault outside c.args.told.now c.args.given) (sym c.fault_of.ensures)
    (is_fault outside c.args.given loaded
    (subst (λ given. IsLoadBeside given outside loaded) c.in-Ok.ensures c.in-Ok-load_beside.ensures.loaded)
    c.args.told.now c.in-Err-unit_report_loaded.fault c.in-Err-unit_report_loaded.ensures.fault)
