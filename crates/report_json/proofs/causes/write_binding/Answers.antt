use Rattle.std.proofs.Common.{refl}
use Rattle.std.proofs.lemmas.Result.{err_from_is_err_and}
use Rattle.report_json.proofs.FindingPieces.{cause_is}
use Rattle.format_parts.proofs.Steps.{begins, goes_on, stops, last_call}
use Rattle.report_json.proofs.causes.write_binding.Goals as goal

pub returns-in_err-put_all-clause-taken : goal.returns-in_err-put_all-clause-taken
returns-in_err-put_all-clause-taken g c =
    let p = err_from_is_err_and c.from_residual.result c.from_residual.ensures.1 in
    let parts = cause_is c.args.number c.args.note.now _ _ _ _ refl refl refl refl in
    stops _ _ _ _ _ _ _ parts (begins _ _) c.in_err-put_all.ensures.taken _ p.0 p.1

pub returns-in_err-open_place-clause-taken : goal.returns-in_err-open_place-clause-taken
returns-in_err-open_place-clause-taken g c =
    let p = err_from_is_err_and c.from_residual-in_err-open_place.result c.from_residual-in_err-open_place.ensures.1 in
    let parts = cause_is c.args.number c.args.note.now _ _ _ _ c.name_of.ensures c.note_place.ensures.line c.note_place.ensures.column refl in
    let after_put_all = goes_on _ _ _ _ _ _ _ parts (begins _ _) c.in_ok-put_all.ensures.taken in
    stops _ _ _ _ _ _ _ refl after_put_all c.in_err-open_place.ensures.taken _ p.0 p.1

pub returns-in_err-put_each-clause-taken : goal.returns-in_err-put_each-clause-taken
returns-in_err-put_each-clause-taken g c =
    let p = err_from_is_err_and c.from_residual-in_err-put_each.result c.from_residual-in_err-put_each.ensures.1 in
    let parts = cause_is c.args.number c.args.note.now _ _ _ _ c.name_of.ensures c.note_place.ensures.line c.note_place.ensures.column refl in
    let after_put_all = goes_on _ _ _ _ _ _ _ parts (begins _ _) c.in_ok-put_all.ensures.taken in
    let after_place = goes_on _ _ _ _ _ _ _ refl after_put_all c.in_ok-open_place.ensures.taken in
    stops _ _ _ _ _ _ _ refl after_place c.in_err-put_each.ensures.taken _ p.0 p.1

pub returns-in_err-write_by-clause-taken : goal.returns-in_err-write_by-clause-taken
returns-in_err-write_by-clause-taken g c =
    let p = err_from_is_err_and c.from_residual-in_err-write_by.result c.from_residual-in_err-write_by.ensures.1 in
    let parts = cause_is c.args.number c.args.note.now _ _ _ _ c.name_of.ensures c.note_place.ensures.line c.note_place.ensures.column c.call_of.ensures in
    let after_put_all = goes_on _ _ _ _ _ _ _ parts (begins _ _) c.in_ok-put_all.ensures.taken in
    let after_place = goes_on _ _ _ _ _ _ _ refl after_put_all c.in_ok-open_place.ensures.taken in
    let after_number = goes_on _ _ _ _ _ _ _ refl after_place c.in_ok-put_each.ensures.taken in
    stops _ _ _ _ _ _ _ refl after_number c.in_err-write_by.ensures.taken _ p.0 p.1

pub returns-clause-taken : goal.returns-clause-taken
returns-clause-taken g c =
    let parts = cause_is c.args.number c.args.note.now _ _ _ _ c.name_of.ensures c.note_place.ensures.line c.note_place.ensures.column c.call_of.ensures in
    let after_put_all = goes_on _ _ _ _ _ _ _ parts (begins _ _) c.in_ok-put_all.ensures.taken in
    let after_place = goes_on _ _ _ _ _ _ _ refl after_put_all c.in_ok-open_place.ensures.taken in
    let after_number = goes_on _ _ _ _ _ _ _ refl after_place c.in_ok-put_each.ensures.taken in
    last_call _ _ _ _ _ (goes_on _ _ _ _ _ _ _ refl after_number c.in_ok-write_by.ensures.taken) _ c.put_all-2.ensures.taken
