use Rattle.std.proofs.Common.{refl}
use Rattle.std.proofs.lemmas.Result.{err_from_is_err_and}
use Rattle.report_json.proofs.FindingPieces.{report_is}
use Rattle.format_parts.proofs.Steps.{begins, goes_on, stops, last_call}
use Rattle.report_json.proofs.json_report.write_json.Goals as goal

pub returns-in_err-put_all-clause-taken : goal.returns-in_err-put_all-clause-taken
returns-in_err-put_all-clause-taken g c =
    let p = err_from_is_err_and c.from_residual.result c.from_residual.ensures.1 in
    let parts = report_is c.args.style c.args.fixes.now c.args.packages.now in
    stops _ _ _ _ _ _ _ parts (begins _ _) c.in_err-put_all.ensures.taken _ p.0 p.1

pub returns-in_err-write_packages-clause-taken : goal.returns-in_err-write_packages-clause-taken
returns-in_err-write_packages-clause-taken g c =
    let p = err_from_is_err_and c.from_residual-in_err-write_packages.result c.from_residual-in_err-write_packages.ensures.1 in
    let parts = report_is c.args.style c.args.fixes.now c.args.packages.now in
    let after_put_all = goes_on _ _ _ _ _ _ _ parts (begins _ _) c.in_ok-put_all.ensures.taken in
    stops _ _ _ _ _ _ _ refl after_put_all c.in_err-write_packages.ensures.taken _ p.0 p.1

pub returns-clause-taken : goal.returns-clause-taken
returns-clause-taken g c =
    let parts = report_is c.args.style c.args.fixes.now c.args.packages.now in
    let after_put_all = goes_on _ _ _ _ _ _ _ parts (begins _ _) c.in_ok-put_all.ensures.taken in
    last_call _ _ _ _ _ (goes_on _ _ _ _ _ _ _ refl after_put_all c.in_ok-write_packages.ensures.taken) _ c.close_report.ensures.taken
