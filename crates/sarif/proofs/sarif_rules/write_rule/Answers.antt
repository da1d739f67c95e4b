use Rattle.std.proofs.Common.{refl}
use Rattle.std.proofs.lemmas.Result.{err_from_is_err_and}
use Rattle.sarif.proofs.SarifPieces.{rule_is}
use Rattle.format_parts.proofs.Steps.{begins, goes_on, last_call, stops}
use Rattle.sarif.proofs.sarif_rules.write_rule.Goals as goal

pub returns-in_err-put_each-clause-taken : goal.returns-in_err-put_each-clause-taken
returns-in_err-put_each-clause-taken g c =
    let p = err_from_is_err_and c.from_residual.result c.from_residual.ensures.1 in
    let parts = rule_is c.args.is_later c.args.wording c.args.code _ _ _ c.comma.ensures c.number.ensures c.rule_text.ensures in
    stops _ _ _ _ _ _ _ parts (begins _ _) c.in_err-put_each.ensures.taken _ p.0 p.1

pub returns-in_err-write_details-clause-taken : goal.returns-in_err-write_details-clause-taken
returns-in_err-write_details-clause-taken g c =
    let p = err_from_is_err_and c.from_residual-in_err-write_details.result c.from_residual-in_err-write_details.ensures.1 in
    let parts = rule_is c.args.is_later c.args.wording c.args.code _ _ _ c.comma.ensures c.number.ensures c.rule_text.ensures in
    let after_put_each = goes_on _ _ _ _ _ _ _ parts (begins _ _) c.in_ok-put_each.ensures.taken in
    stops _ _ _ _ _ _ _ refl after_put_each c.in_err-write_details.ensures.taken _ p.0 p.1

pub returns-clause-taken : goal.returns-clause-taken
returns-clause-taken g c =
    let parts = rule_is c.args.is_later c.args.wording c.args.code _ _ _ c.comma.ensures c.number.ensures c.rule_text.ensures in
    let after_put_each = goes_on _ _ _ _ _ _ _ parts (begins _ _) c.in_ok-put_each.ensures.taken in
    last_call _ _ _ _ _ (goes_on _ _ _ _ _ _ _ refl after_put_each c.in_ok-write_details.ensures.taken) _ c.put_all.ensures.taken
