use Rattle.std.proofs.Common.{refl}
use Rattle.std.proofs.lemmas.Result.{err_from_is_err_and}
use Rattle.report_json.proofs.JsonPieces.{note_is}
use Rattle.format_parts.proofs.Steps.{begins, goes_on, stops, last_call}
use Rattle.report_json.proofs.json_report.write_note.Goals as goal

pub returns-in_err-open_place-clause-taken : goal.returns-in_err-open_place-clause-taken
returns-in_err-open_place-clause-taken g c =
    let p = err_from_is_err_and c.from_residual.result c.from_residual.ensures.1 in
    let t = c.text_parts.result in
    let parts = note_is c.args.is_later c.args.wording c.args.before.now c.args.note.now _ _ _ _ _ t.0.now t.1.now t.2.now t.3.now t.4.now c.name_of.ensures c.note_place.ensures.line c.note_place.ensures.column refl refl c.text_parts.ensures in
    stops _ _ _ _ _ _ _ parts (begins _ _) c.in_err-open_place.ensures.taken _ p.0 p.1

pub returns-in_err-write_end-clause-taken : goal.returns-in_err-write_end-clause-taken
returns-in_err-write_end-clause-taken g c =
    let p = err_from_is_err_and c.from_residual-in_err-write_end.result c.from_residual-in_err-write_end.ensures.1 in
    let t = c.text_parts.result in
    let parts = note_is c.args.is_later c.args.wording c.args.before.now c.args.note.now _ _ _ _ _ t.0.now t.1.now t.2.now t.3.now t.4.now c.name_of.ensures c.note_place.ensures.line c.note_place.ensures.column c.step_end_place.ensures refl c.text_parts.ensures in
    let after_place = goes_on _ _ _ _ _ _ _ parts (begins _ _) c.in_ok-open_place.ensures.taken in
    stops _ _ _ _ _ _ _ refl after_place c.in_err-write_end.ensures.taken _ p.0 p.1

pub returns-in_err-write_kind-clause-taken : goal.returns-in_err-write_kind-clause-taken
returns-in_err-write_kind-clause-taken g c =
    let p = err_from_is_err_and c.from_residual-in_err-write_kind.result c.from_residual-in_err-write_kind.ensures.1 in
    let t = c.text_parts.result in
    let parts = note_is c.args.is_later c.args.wording c.args.before.now c.args.note.now _ _ _ _ _ t.0.now t.1.now t.2.now t.3.now t.4.now c.name_of.ensures c.note_place.ensures.line c.note_place.ensures.column c.step_end_place.ensures refl c.text_parts.ensures in
    let after_place = goes_on _ _ _ _ _ _ _ parts (begins _ _) c.in_ok-open_place.ensures.taken in
    let after_end = goes_on _ _ _ _ _ _ _ refl after_place c.in_ok-write_end.ensures.taken in
    stops _ _ _ _ _ _ _ refl after_end c.in_err-write_kind.ensures.taken _ p.0 p.1

pub returns-in_err-write_turn-clause-taken : goal.returns-in_err-write_turn-clause-taken
returns-in_err-write_turn-clause-taken g c =
    let p = err_from_is_err_and c.from_residual-in_err-write_turn.result c.from_residual-in_err-write_turn.ensures.1 in
    let t = c.text_parts.result in
    let parts = note_is c.args.is_later c.args.wording c.args.before.now c.args.note.now _ _ _ _ _ t.0.now t.1.now t.2.now t.3.now t.4.now c.name_of.ensures c.note_place.ensures.line c.note_place.ensures.column c.step_end_place.ensures c.told_turn.ensures c.text_parts.ensures in
    let after_place = goes_on _ _ _ _ _ _ _ parts (begins _ _) c.in_ok-open_place.ensures.taken in
    let after_end = goes_on _ _ _ _ _ _ _ refl after_place c.in_ok-write_end.ensures.taken in
    let after_kind = goes_on _ _ _ _ _ _ _ refl after_end c.in_ok-write_kind.ensures.taken in
    stops _ _ _ _ _ _ _ refl after_kind c.in_err-write_turn.ensures.taken _ p.0 p.1

pub returns-clause-taken : goal.returns-clause-taken
returns-clause-taken g c =
    let t = c.text_parts.result in
    let parts = note_is c.args.is_later c.args.wording c.args.before.now c.args.note.now _ _ _ _ _ t.0.now t.1.now t.2.now t.3.now t.4.now c.name_of.ensures c.note_place.ensures.line c.note_place.ensures.column c.step_end_place.ensures c.told_turn.ensures c.text_parts.ensures in
    let after_place = goes_on _ _ _ _ _ _ _ parts (begins _ _) c.in_ok-open_place.ensures.taken in
    let after_end = goes_on _ _ _ _ _ _ _ refl after_place c.in_ok-write_end.ensures.taken in
    let after_kind = goes_on _ _ _ _ _ _ _ refl after_end c.in_ok-write_kind.ensures.taken in
    last_call _ _ _ _ _ (goes_on _ _ _ _ _ _ _ refl after_kind c.in_ok-write_turn.ensures.taken) _ c.put_each.ensures.taken
