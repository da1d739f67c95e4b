use Rattle.std.proofs.Common.{refl}
use Rattle.std.proofs.lemmas.Result.{err_from_is_err_and}
use Rattle.sarif.proofs.SarifPieces.{note_is}
use Rattle.format_parts.proofs.Steps.{begins, goes_on, stops, last_call}
use Rattle.sarif.proofs.log.write_note.Goals as goal

pub returns-in_err-put_each-clause-taken : goal.returns-in_err-put_each-clause-taken
returns-in_err-put_each-clause-taken g c =
    let p = err_from_is_err_and c.from_residual.result c.from_residual.ensures.1 in
    let t = c.text_parts.result in
    let place = c.moved_in_code_points-cursor.result.place in
    let parts = note_is c.args.is_step c.args.is_later c.args.wording c.args.note.now place _ _ _ _ t.0.now t.1.now t.2.now t.3.now t.4.now (record { line = c.moved_in_code_points-cursor.ensures.line; column = c.moved_in_code_points-cursor.ensures.column }) refl c.comma.ensures c.around_note.ensures.0 refl c.text_parts.ensures in
    stops _ _ _ _ _ _ _ parts (begins _ _) c.in_err-put_each.ensures.taken _ p.0 p.1

pub returns-in_err-open_location-clause-taken : goal.returns-in_err-open_location-clause-taken
returns-in_err-open_location-clause-taken g c =
    let p = err_from_is_err_and c.from_residual-in_err-open_location.result c.from_residual-in_err-open_location.ensures.1 in
    let t = c.text_parts.result in
    let place = c.moved_in_code_points-cursor.result.place in
    let parts = note_is c.args.is_step c.args.is_later c.args.wording c.args.note.now place _ _ _ _ t.0.now t.1.now t.2.now t.3.now t.4.now (record { line = c.moved_in_code_points-cursor.ensures.line; column = c.moved_in_code_points-cursor.ensures.column }) c.name_of.ensures c.comma.ensures c.around_note.ensures.0 refl c.text_parts.ensures in
    let after_put_each = goes_on _ _ _ _ _ _ _ parts (begins _ _) c.in_ok-put_each.ensures.taken in
    stops _ _ _ _ _ _ _ refl after_put_each c.in_err-open_location.ensures.taken _ p.0 p.1

pub returns-clause-taken : goal.returns-clause-taken
returns-clause-taken g c =
    let t = c.text_parts.result in
    let place = c.moved_in_code_points-cursor.result.place in
    let parts = note_is c.args.is_step c.args.is_later c.args.wording c.args.note.now place _ _ _ _ t.0.now t.1.now t.2.now t.3.now t.4.now (record { line = c.moved_in_code_points-cursor.ensures.line; column = c.moved_in_code_points-cursor.ensures.column }) c.name_of.ensures c.comma.ensures c.around_note.ensures.0 c.around_note.ensures.1 c.text_parts.ensures in
    let after_put_each = goes_on _ _ _ _ _ _ _ parts (begins _ _) c.in_ok-put_each.ensures.taken in
    last_call _ _ _ _ _ (goes_on _ _ _ _ _ _ _ refl after_put_each c.in_ok-open_location.ensures.taken) _ c.put_each-2.ensures.taken
