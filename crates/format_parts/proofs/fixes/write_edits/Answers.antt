use Rattle.std.proofs.Common.{refl, ◌∙◌}
use Rattle.std.proofs.lemmas.Result.{err_from_is_err_and}
use Rattle.format_parts.specs.Fixes.{edit_value}
use Rattle.format_parts.proofs.Steps.{begins, goes_on, ends, stops}
use Rattle.format_parts.proofs.Values.{next_item, none_listed}
use Rattle.format_parts.proofs.fixes.write_edits.Goals as goal

pub loop-edit-init : goal.loop-edit-init
loop-edit-init g c = (begins _ _, refl)

pub loop-edit-preserved : goal.loop-edit-preserved
loop-edit-preserved g c =
    let next = next_item (edit_value c.args.file.now) c.loop-edit.is_later c.args.edits.now c.loop-edit.edit-index c.edit-item.result c.loop-edit-test.true c.edit-item.is in
    (goes_on _ _ _ _ _ _ _ next c.loop-edit.invariant.0 c.in_ok-write_edit.ensures.taken, c.in_ok-write_edit.ensures.refusals ∙ c.loop-edit.invariant.1)

pub returns-in_err-write_edit-clause-taken : goal.returns-in_err-write_edit-clause-taken
returns-in_err-write_edit-clause-taken g c =
    let p = err_from_is_err_and c.from_residual.result c.from_residual.ensures.1 in
    let next = next_item (edit_value c.args.file.now) c.loop-edit.is_later c.args.edits.now c.loop-edit.edit-index c.edit-item.result c.loop-edit-test.true c.edit-item.is in
    stops _ _ _ _ _ _ _ next c.loop-edit.invariant.0 c.in_err-write_edit.ensures.taken _ p.0 p.1

pub returns-clause-taken : goal.returns-clause-taken
returns-clause-taken g c = ends _ _ _ _ (none_listed (edit_value c.args.file.now) _ c.args.edits.now c.loop-edit.edit-index c.loop-edit-test.false) c.loop-edit.invariant.0
