use Rattle.std.proofs.Common.{refl}
use Rattle.std.proofs.lemmas.Result.{err_from_is_err_and}
use Rattle.format_parts.proofs.Steps.{begins, goes_on, stops, last_call}
use Rattle.report_formats.proofs.report_lines.write_line.Goals as goal

pub returns-in_err-write_front-clause-taken : goal.returns-in_err-write_front-clause-taken
returns-in_err-write_front-clause-taken g c =
    let p = err_from_is_err_and c.from_residual.result c.from_residual.ensures.1 in
    stops _ _ _ _ _ _ _ refl (begins _ _) c.in_err-write_front.ensures.taken _ p.0 p.1

pub returns-in_err-write_reason-clause-taken : goal.returns-in_err-write_reason-clause-taken
returns-in_err-write_reason-clause-taken g c =
    let p = err_from_is_err_and c.from_residual-in_err-write_reason.result c.from_residual-in_err-write_reason.ensures.1 in
    let front = goes_on _ _ _ _ _ _ _ refl (begins _ _) c.in_ok-write_front.ensures.taken in
    stops _ _ _ _ _ _ _ refl front c.in_err-write_reason.ensures.taken _ p.0 p.1

pub returns-clause-taken : goal.returns-clause-taken
returns-clause-taken g c =
    let front = goes_on _ _ _ _ _ _ _ refl (begins _ _) c.in_ok-write_front.ensures.taken in
    last_call _ _ _ _ _ (goes_on _ _ _ _ _ _ _ refl front c.in_ok-write_reason.ensures.taken) _ c.put_all.ensures.taken
