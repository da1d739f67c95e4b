use Rattle.std.proofs.Common.{refl, ap, ◌∙◌}
use Rattle.serde_json.specs.Data.{boolean}
use Rattle.serde_json.specs.Written.{compact_text}
use Rattle.std.proofs.lemmas.Result.{err_from_is_err_and}
use Rattle.report_json.proofs.FunctionPieces.{function_is}
use Rattle.format_parts.proofs.Steps.{begins, goes_on, stops, last_call}
use Rattle.report_json.proofs.in_functions.write_told.Goals as goal

pub returns-in_err-put_all-clause-taken : goal.returns-in_err-put_all-clause-taken
returns-in_err-put_all-clause-taken g c =
    let p = err_from_is_err_and c.from_residual.result c.from_residual.ensures.1 in
    let parts = function_is _ _ c.args.offset c.args.function _ _ _ _ c.bytes_of-text.ensures refl refl refl refl in
    stops _ _ _ _ _ _ _ parts (begins _ _) c.in_err-put_all.ensures.taken _ p.0 p.1

pub returns-in_err-write_name-clause-taken : goal.returns-in_err-write_name-clause-taken
returns-in_err-write_name-clause-taken g c =
    let p = err_from_is_err_and c.from_residual-in_err-write_name.result c.from_residual-in_err-write_name.ensures.1 in
    let parts = function_is _ _ c.args.offset c.args.function _ _ _ _ c.bytes_of-text.ensures refl refl refl refl in
    let after_front = goes_on _ _ _ _ _ _ _ parts (begins _ _) c.in_ok-put_all.ensures.taken in
    stops _ _ _ _ _ _ _ refl after_front c.in_err-write_name.ensures.taken _ p.0 p.1

pub returns-clause-taken : goal.returns-clause-taken
returns-clause-taken g c =
    let parts = function_is _ _ c.args.offset c.args.function _ _ _ c.truth.result.now c.bytes_of-text.ensures c.line_at.ensures c.body_end-end.ensures c.line_at-2.ensures (c.truth.ensures ∙ ap (λ b. compact_text (boolean b)) c.is_in_literal.ensures) in
    let after_front = goes_on _ _ _ _ _ _ _ parts (begins _ _) c.in_ok-put_all.ensures.taken in
    last_call _ _ _ _ _ (goes_on _ _ _ _ _ _ _ refl after_front c.in_ok-write_name.ensures.taken) _ c.put_each.ensures.taken
