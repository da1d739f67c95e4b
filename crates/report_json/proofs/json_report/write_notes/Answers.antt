use Rattle.std.proofs.Common.{refl, ◌∙◌}
use Rattle.std.proofs.lemmas.Result.{err_from_is_err_and}
use Rattle.format_parts.proofs.Steps.{begins, goes_on, ends, stops}
use Rattle.report_json.proofs.JsonPieces.{next_note, none_noted}
use Rattle.report_json.proofs.json_report.write_notes.Goals as goal

pub notes-init : goal.notes-init
notes-init g c = (begins _ _, refl)

pub notes-preserved : goal.notes-preserved
notes-preserved g c =
    let l = c.notes in
    let next = next_note c.args.wording l.is_later c.args.notes.now l.index c.index-notes-index.result _ c.notes-test.true c.index-notes-index.is c.split_at.ensures.front in
    (goes_on _ _ _ _ _ _ _ next l.invariant.0 c.in_ok-write_note.ensures.taken, c.in_ok-write_note.ensures.refusals ∙ l.invariant.1)

pub returns-in_err-write_note-clause-taken : goal.returns-in_err-write_note-clause-taken
returns-in_err-write_note-clause-taken g c =
    let l = c.notes in
    let p = err_from_is_err_and c.from_residual.result c.from_residual.ensures.1 in
    let next = next_note c.args.wording l.is_later c.args.notes.now l.index c.index-notes-index.result _ c.notes-test.true c.index-notes-index.is c.split_at.ensures.front in
    stops _ _ _ _ _ _ _ next l.invariant.0 c.in_err-write_note.ensures.taken _ p.0 p.1

pub returns-clause-taken : goal.returns-clause-taken
returns-clause-taken g c =
    ends _ _ _ _ (none_noted c.args.wording c.notes.is_later c.args.notes.now c.notes.index c.notes-test.false) c.notes.invariant.0
