use Rattle.judge.proofs.Loads.{is_report}
use Rattle.declared_json.specs.DeclaredPackages.{packages_of}
use Rattle.judge.proofs.reports.report_of.Goals as goal

pub returns-clause-report : goal.returns-clause-report
returns-clause-report c =
    is_report c.args.telling (packages_of c.args.outside) c.args.given.items c.in_ok-loaded.loaded c.in_ok-report_loaded.field-0
    c.in_ok-loaded.ensures.loaded c.in_ok-report_loaded.ensures
