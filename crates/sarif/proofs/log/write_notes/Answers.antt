use Rattle.std.proofs.Common.{refl, ◌∙◌}
use Rattle.std.proofs.lemmas.Result.{err_from_is_err_and}
use Rattle.sarif.specs.SarifText.{told_note}
use Rattle.format_parts.proofs.Steps.{begins, goes_on, ends, stops}
use Rattle.format_parts.proofs.Values.{next_item, none_listed}
use Rattle.sarif.proofs.log.write_notes.Goals as goal

pub loop-note-init : goal.loop-note-init
loop-note-init g c = (begins _ _, refl)

pub loop-note-preserved : goal.loop-note-preserved
loop-note-preserved g c =
    let next = next_item (told_note c.args.wording c.args.are_steps) c.loop-note.is_later c.args.notes.now c.loop-note.note-index c.note-item.result c.loop-note-test.true c.note-item.is in
    (goes_on _ _ _ _ _ _ _ next c.loop-note.invariant.0 c.in_ok-write_note.ensures.taken, c.in_ok-write_note.ensures.refusals ∙ c.loop-note.invariant.1)

pub returns-in_err-write_note-clause-taken : goal.returns-in_err-write_note-clause-taken
returns-in_err-write_note-clause-taken g c =
    let p = err_from_is_err_and c.from_residual.result c.from_residual.ensures.1 in
    let next = next_item (told_note c.args.wording c.args.are_steps) c.loop-note.is_later c.args.notes.now c.loop-note.note-index c.note-item.result c.loop-note-test.true c.note-item.is in
    stops _ _ _ _ _ _ _ next c.loop-note.invariant.0 c.in_err-write_note.ensures.taken _ p.0 p.1

pub returns-clause-taken : goal.returns-clause-taken
returns-clause-taken g c = ends _ _ _ _ (none_listed (told_note c.args.wording c.args.are_steps) _ c.args.notes.now c.loop-note.note-index c.loop-note-test.false) c.loop-note.invariant.0
