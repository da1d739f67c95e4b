use Rattle.std.proofs.Common.{option_map, refl, ap}
use Rattle.std.proofs.lemmas.Result.{err_from_is_err_and}
use Rattle.accepting.specs.Findings.{accepted_view}
use Rattle.report_json.proofs.JsonPieces.{reason_is, no_reason}
use Rattle.format_parts.proofs.Steps.{nothing_put, begins, goes_on, stops, last_call}
use Rattle.report_json.proofs.json_report.write_reason.Goals as goal

pub returns-in_default-clause-taken : goal.returns-in_default-clause-taken
returns-in_default-clause-taken g c = nothing_put _ _ (no_reason _ (ap (option_map accepted_view) c.in_default.is))

pub returns-in_err-put_all-clause-taken : goal.returns-in_err-put_all-clause-taken
returns-in_err-put_all-clause-taken g c =
    let p = err_from_is_err_and c.from_residual.result c.from_residual.ensures.1 in
    let parts = reason_is _ _ _ (ap (option_map accepted_view) c.in-Some.is) refl in
    stops _ _ _ _ _ _ _ parts (begins _ _) c.in_err-put_all.ensures.taken _ p.0 p.1

pub returns-in_err-put_spelled-clause-taken : goal.returns-in_err-put_spelled-clause-taken
returns-in_err-put_spelled-clause-taken g c =
    let p = err_from_is_err_and c.from_residual-in_err-put_spelled.result c.from_residual-in_err-put_spelled.ensures.1 in
    let parts = reason_is _ _ _ (ap (option_map accepted_view) c.in-Some.is) c.reason_text.ensures in
    let after_put_all = goes_on _ _ _ _ _ _ _ parts (begins _ _) c.in_ok-put_all.ensures.taken in
    stops _ _ _ _ _ _ _ refl after_put_all c.in_err-put_spelled.ensures.taken _ p.0 p.1

pub returns-clause-taken : goal.returns-clause-taken
returns-clause-taken g c =
    let parts = reason_is _ _ _ (ap (option_map accepted_view) c.in-Some.is) c.reason_text.ensures in
    let after_put_all = goes_on _ _ _ _ _ _ _ parts (begins _ _) c.in_ok-put_all.ensures.taken in
    last_call _ _ _ _ _ (goes_on _ _ _ _ _ _ _ refl after_put_all c.in_ok-put_spelled.ensures.taken) _ c.put_all-2.ensures.taken
