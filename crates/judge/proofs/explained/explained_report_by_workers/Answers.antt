use Rattle.judge.proofs.ExplainedReports.{is_explained}
use Rattle.judge.proofs.NotGivenPaths.{not_given_of}
use Rattle.judge.proofs.WorkersFaults.{is_of_workers}
use Rattle.declared_json.specs.DeclaredPackages.{packages_of}
use Rattle.workers.specs.Counts.{count_of}
use Rattle.judge.proofs.explained.explained_report_by_workers.Goals as goal

pub returns-in-Ok-explained_loaded-clause-report : goal.returns-in-Ok-explained_loaded-clause-report
returns-in-Ok-explained_loaded-clause-report g c =
    is_explained c.args.settings.telling (packages_of c.args.outside) c.args.given.items c.in-Ok.loaded c.in-Ok-explained_loaded.told
    c.in-Ok.ensures.loaded c.in-Ok-explained_loaded.ensures.explained

pub returns-in-Ok-explained_loaded-clause-not_given : goal.returns-in-Ok-explained_loaded-clause-not_given
returns-in-Ok-explained_loaded-clause-not_given g c =
    not_given_of (packages_of c.args.outside) c.args.given.items c.in-Ok.loaded
    c.in-Ok-explained_loaded.told.not_given.items c.in-Ok.ensures.loaded c.in-Ok-explained_loaded.ensures.not_given

pub returns-in-Err-explained_loaded-clause-fault : goal.returns-in-Err-explained_loaded-clause-fault
returns-in-Err-explained_loaded-clause-fault g c =
    is_of_workers (packages_of c.args.outside) c.args.given.items (count_of c.args.settings.workers) c.in-Ok.loaded
    c.in-Ok.ensures.loaded c.in-Err-explained_loaded.fault c.of_workers.result c.of_workers.ensures
    c.in-Err-explained_loaded.ensures.fault
