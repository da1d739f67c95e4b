use Rattle.std.proofs.Common.{refl}
use Rattle.std.proofs.lemmas.Result.{err_from_is_err_and}
use Rattle.sarif.proofs.SarifPieces.{no_notes, notes_are}
use Rattle.format_parts.proofs.Steps.{written_as, begins, goes_on, stops, last_call}
use Rattle.sarif.proofs.log.close_result.Goals as goal

pub returns-then-is_empty-clause-taken : goal.returns-then-is_empty-clause-taken
returns-then-is_empty-clause-taken g c =
    written_as _ _ _ _ (no_notes c.args.wording c.args.code c.args.notes.now c.if-is_empty.ensures) _ c.put_all.ensures.taken

pub returns-in_err-put_each-clause-taken : goal.returns-in_err-put_each-clause-taken
returns-in_err-put_each-clause-taken g c =
    let p = err_from_is_err_and c.from_residual.result c.from_residual.ensures.1 in
    let parts = notes_are c.args.wording c.args.code c.args.notes.now c.if-is_empty.ensures _ _ _ c.tells_way-are_steps.ensures c.around_notes.ensures.0 refl in
    stops _ _ _ _ _ _ _ parts (begins _ _) c.in_err-put_each.ensures.taken _ p.0 p.1

pub returns-in_err-write_notes-clause-taken : goal.returns-in_err-write_notes-clause-taken
returns-in_err-write_notes-clause-taken g c =
    let p = err_from_is_err_and c.from_residual-in_err-write_notes.result c.from_residual-in_err-write_notes.ensures.1 in
    let parts = notes_are c.args.wording c.args.code c.args.notes.now c.if-is_empty.ensures _ _ _ c.tells_way-are_steps.ensures c.around_notes.ensures.0 refl in
    let after_put_each = goes_on _ _ _ _ _ _ _ parts (begins _ _) c.in_ok-put_each.ensures.taken in
    stops _ _ _ _ _ _ _ refl after_put_each c.in_err-write_notes.ensures.taken _ p.0 p.1

pub returns-clause-taken : goal.returns-clause-taken
returns-clause-taken g c =
    let parts = notes_are c.args.wording c.args.code c.args.notes.now c.if-is_empty.ensures _ _ _ c.tells_way-are_steps.ensures c.around_notes.ensures.0 c.around_notes.ensures.1 in
    let after_put_each = goes_on _ _ _ _ _ _ _ parts (begins _ _) c.in_ok-put_each.ensures.taken in
    last_call _ _ _ _ _ (goes_on _ _ _ _ _ _ _ refl after_put_each c.in_ok-write_notes.ensures.taken) _ c.put_each-2.ensures.taken
