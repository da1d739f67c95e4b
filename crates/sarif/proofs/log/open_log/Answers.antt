use Rattle.std.proofs.Common.{refl}
use Rattle.std.proofs.lemmas.Result.{err_from_is_err_and}
use Rattle.sarif.specs.SarifCodes.{rule_codes}
use Rattle.sarif.proofs.SarifPieces.{front_ends, front_is}
use Rattle.format_parts.proofs.Steps.{begins, goes_on, last_call, stops, written_as}
use Rattle.sarif.proofs.log.open_log.Goals as goal

pub returns-in_err-put_all-clause-taken : goal.returns-in_err-put_all-clause-taken
returns-in_err-put_all-clause-taken g c =
    let p = err_from_is_err_and c.from_residual.result c.from_residual.ensures.1 in
    let parts = front_is c.args.wording (rule_codes c.args.wording) refl in
    stops _ _ _ _ _ _ _ parts (begins _ _) c.in_err-put_all.ensures.taken _ p.0 p.1

pub returns-in_err-write_tool-clause-taken : goal.returns-in_err-write_tool-clause-taken
returns-in_err-write_tool-clause-taken g c =
    let p = err_from_is_err_and c.from_residual-in_err-write_tool.result c.from_residual-in_err-write_tool.ensures.1 in
    let parts = front_is c.args.wording (rule_codes c.args.wording) refl in
    let after_put_all = goes_on _ _ _ _ _ _ _ parts (begins _ _) c.in_ok-put_all.ensures.taken in
    stops _ _ _ _ _ _ _ refl after_put_all c.in_err-write_tool.ensures.taken _ p.0 p.1

pub returns-in_err-put_all-2-clause-taken : goal.returns-in_err-put_all-2-clause-taken
returns-in_err-put_all-2-clause-taken g c =
    let p = err_from_is_err_and c.from_residual-in_err-put_all-2.result c.from_residual-in_err-put_all-2.ensures.1 in
    let parts = front_is c.args.wording (rule_codes c.args.wording) refl in
    let after_put_all = goes_on _ _ _ _ _ _ _ parts (begins _ _) c.in_ok-put_all.ensures.taken in
    let after_tool = goes_on _ _ _ _ _ _ _ refl after_put_all c.in_ok-write_tool.ensures.taken in
    stops _ _ _ _ _ _ _ refl after_tool c.in_err-put_all-2.ensures.taken _ p.0 p.1

pub returns-in_err-write_rules-clause-taken : goal.returns-in_err-write_rules-clause-taken
returns-in_err-write_rules-clause-taken g c =
    let p = err_from_is_err_and c.from_residual-in_err-write_rules.result c.from_residual-in_err-write_rules.ensures.1 in
    let parts = front_is c.args.wording _ c.rule_codes.ensures in
    let after_put_all = goes_on _ _ _ _ _ _ _ parts (begins _ _) c.in_ok-put_all.ensures.taken in
    let after_tool = goes_on _ _ _ _ _ _ _ refl after_put_all c.in_ok-write_tool.ensures.taken in
    let after_name = goes_on _ _ _ _ _ _ _ refl after_tool c.in_ok-put_all-2.ensures.taken in
    stops _ _ _ _ _ _ _ refl after_name c.in_err-write_rules.ensures.taken _ p.0 p.1

pub returns-clause-taken : goal.returns-clause-taken
returns-clause-taken g c =
    let parts = front_is c.args.wording _ c.rule_codes.ensures in
    let after_put_all = goes_on _ _ _ _ _ _ _ parts (begins _ _) c.in_ok-put_all.ensures.taken in
    let after_tool = goes_on _ _ _ _ _ _ _ refl after_put_all c.in_ok-write_tool.ensures.taken in
    let after_name = goes_on _ _ _ _ _ _ _ refl after_tool c.in_ok-put_all-2.ensures.taken in
    let after_rules = goes_on _ _ _ _ _ _ _ refl after_name c.in_ok-write_rules.ensures.taken in
    last_call _ _ _ _ _ after_rules _ (written_as _ _ _ _ (front_ends c.args.wording _ c.run_kind.ensures) _ c.put_each.ensures.taken)
