use Rattle.std.proofs.Common.{refl}
use Rattle.std.proofs.lemmas.Result.{err_from_is_err_and}
use Rattle.sarif.proofs.SarifPieces.{log_is}
use Rattle.format_parts.proofs.Steps.{begins, goes_on, stops, last_call}
use Rattle.sarif.proofs.log.write_sarif.Goals as goal

pub returns-in_err-open_log-clause-taken : goal.returns-in_err-open_log-clause-taken
returns-in_err-open_log-clause-taken g c =
    let p = err_from_is_err_and c.from_residual.result c.from_residual.ensures.1 in
    let parts = log_is c.args.style c.args.fixes.now c.args.packages.now in
    stops _ _ _ _ _ _ _ parts (begins _ _) c.in_err-open_log.ensures.taken _ p.0 p.1

pub returns-in_err-write_results-clause-taken : goal.returns-in_err-write_results-clause-taken
returns-in_err-write_results-clause-taken g c =
    let p = err_from_is_err_and c.from_residual-in_err-write_results.result c.from_residual-in_err-write_results.ensures.1 in
    let parts = log_is c.args.style c.args.fixes.now c.args.packages.now in
    let after_open_log = goes_on _ _ _ _ _ _ _ parts (begins _ _) c.in_ok-open_log.ensures.taken in
    stops _ _ _ _ _ _ _ refl after_open_log c.in_err-write_results.ensures.taken _ p.0 p.1

pub returns-clause-taken : goal.returns-clause-taken
returns-clause-taken g c =
    let parts = log_is c.args.style c.args.fixes.now c.args.packages.now in
    let after_open_log = goes_on _ _ _ _ _ _ _ parts (begins _ _) c.in_ok-open_log.ensures.taken in
    last_call _ _ _ _ _ (goes_on _ _ _ _ _ _ _ refl after_open_log c.in_ok-write_results.ensures.taken) _ c.put_all.ensures.taken
