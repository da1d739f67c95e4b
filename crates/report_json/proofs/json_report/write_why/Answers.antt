use Rattle.std.proofs.Common.{refl}
use Rattle.std.proofs.lemmas.Result.{err_from_is_err_and}
use Rattle.report_json.proofs.JsonPieces.{why_is, no_why}
use Rattle.format_parts.proofs.Steps.{flag_is, flag_not, nothing_put, begins, goes_on, stops, last_call}
use Rattle.report_json.proofs.json_report.write_why.Goals as goal

pub returns-then-not-style-clause-taken : goal.returns-then-not-style-clause-taken
returns-then-not-style-clause-taken g c = nothing_put _ _ (no_why _ _ _ (flag_not _ c.if-not-style.true))

pub returns-in_err-put_all-clause-taken : goal.returns-in_err-put_all-clause-taken
returns-in_err-put_all-clause-taken g c =
    let p = err_from_is_err_and c.from_residual.result c.from_residual.ensures.1 in
    let parts = why_is _ _ _ _ (flag_is _ c.if-not-style.false) refl in
    stops _ _ _ _ _ _ _ parts (begins _ _) c.in_err-put_all.ensures.taken _ p.0 p.1

pub returns-in_err-write_notes-clause-taken : goal.returns-in_err-write_notes-clause-taken
returns-in_err-write_notes-clause-taken g c =
    let p = err_from_is_err_and c.from_residual-in_err-write_notes.result c.from_residual-in_err-write_notes.ensures.1 in
    let parts = why_is _ _ _ _ (flag_is _ c.if-not-style.false) c.notes_told.ensures in
    let after_put_all = goes_on _ _ _ _ _ _ _ parts (begins _ _) c.in_ok-put_all.ensures.taken in
    stops _ _ _ _ _ _ _ refl after_put_all c.in_err-write_notes.ensures.taken _ p.0 p.1

pub returns-clause-taken : goal.returns-clause-taken
returns-clause-taken g c =
    let parts = why_is _ _ _ _ (flag_is _ c.if-not-style.false) c.notes_told.ensures in
    let after_put_all = goes_on _ _ _ _ _ _ _ parts (begins _ _) c.in_ok-put_all.ensures.taken in
    last_call _ _ _ _ _ (goes_on _ _ _ _ _ _ _ refl after_put_all c.in_ok-write_notes.ensures.taken) _ c.put_all-2.ensures.taken
