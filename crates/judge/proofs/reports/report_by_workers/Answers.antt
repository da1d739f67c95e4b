use Rattle.judge.proofs.Loads.{is_report}
use Rattle.judge.proofs.NotGivenPaths.{not_given_of}
use Rattle.judge.proofs.WorkersFaults.{is_of_workers}
use Rattle.declared_json.specs.DeclaredPackages.{packages_of}
use Rattle.workers.specs.Counts.{count_of}
use Rattle.judge.proofs.reports.report_by_workers.Goals as goal

pub returns-in-Ok-report_loaded_by_workers-clause-report : goal.returns-in-Ok-report_loaded_by_workers-clause-report
returns-in-Ok-report_loaded_by_workers-clause-report g c =
    is_report c.args.settings.telling (packages_of c.args.outside) c.args.given.items c.in-Ok.loaded
    c.in-Ok-report_loaded_by_workers.report.report c.in-Ok.ensures.loaded c.in-Ok-report_loaded_by_workers.ensures.report

pub returns-in-Ok-report_loaded_by_workers-clause-not_given : goal.returns-in-Ok-report_loaded_by_workers-clause-not_given
returns-in-Ok-report_loaded_by_workers-clause-not_given g c =
    not_given_of (packages_of c.args.outside) c.args.given.items c.in-Ok.loaded
    c.in-Ok-report_loaded_by_workers.report.not_given.items c.in-Ok.ensures.loaded
    c.in-Ok-report_loaded_by_workers.ensures.not_given

pub returns-in-Err-report_loaded_by_workers-clause-fault : goal.returns-in-Err-report_loaded_by_workers-clause-fault
returns-in-Err-report_loaded_by_workers-clause-fault g c =
    is_of_workers (packages_of c.args.outside) c.args.given.items (count_of c.args.settings.workers) c.in-Ok.loaded
    c.in-Ok.ensures.loaded c.in-Err-report_loaded_by_workers.fault c.of_workers.result c.of_workers.ensures
    c.in-Err-report_loaded_by_workers.ensures.fault
