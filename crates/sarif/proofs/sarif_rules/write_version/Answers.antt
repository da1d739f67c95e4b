use Rattle.std.proofs.lemmas.Result.{err_from_is_err_and}
use Rattle.sarif.proofs.SarifPieces.{tool_is}
use Rattle.format_parts.proofs.Steps.{begins, goes_on, last_call, stops}
use Rattle.sarif.proofs.sarif_rules.write_version.Goals as goal

pub returns-in_err-put_each-clause-taken : goal.returns-in_err-put_each-clause-taken
returns-in_err-put_each-clause-taken g c =
    let p = err_from_is_err_and c.from_residual.result c.from_residual.ensures.1 in
    stops _ _ _ _ _ _ _ tool_is (begins _ _) c.in_err-put_each.ensures.taken _ p.0 p.1

pub returns-clause-taken : goal.returns-clause-taken
returns-clause-taken g c =
    last_call _ _ _ _ _ (goes_on _ _ _ _ _ _ _ tool_is (begins _ _) c.in_ok-put_each.ensures.taken) _ c.write_information.ensures.taken
