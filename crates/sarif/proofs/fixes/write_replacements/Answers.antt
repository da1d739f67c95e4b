use Rattle.std.proofs.Common.{refl, slice_get, ◌∙◌}
use Rattle.std.proofs.lemmas.Result.{err_from_is_err_and}
use Rattle.format_parts.proofs.Steps.{begins, goes_on, ends, stops}
use Rattle.format_parts.proofs.Values.{next_item, none_listed}
use Rattle.sarif.specs.SarifText.{replacement}
use Rattle.sarif.proofs.fixes.write_replacements.Goals as goal

pub loop-edit-init : goal.loop-edit-init
loop-edit-init g c = (begins _ _, refl)

pub loop-edit-preserved : goal.loop-edit-preserved
loop-edit-preserved g c =
    let next = next_item (replacement (slice_get c.args.sources.now c.args.file)) c.loop-edit.is_later c.args.edits.now c.loop-edit.edit-index c.edit-item.result c.loop-edit-test.true c.edit-item.is in
    (goes_on _ _ _ _ _ _ _ next c.loop-edit.invariant.0 c.in_ok-write_replacement.ensures.taken, c.in_ok-write_replacement.ensures.refusals ∙ c.loop-edit.invariant.1)

pub returns-in_err-write_replacement-clause-taken : goal.returns-in_err-write_replacement-clause-taken
returns-in_err-write_replacement-clause-taken g c =
    let p = err_from_is_err_and c.from_residual.result c.from_residual.ensures.1 in
    let next = next_item (replacement (slice_get c.args.sources.now c.args.file)) c.loop-edit.is_later c.args.edits.now c.loop-edit.edit-index c.edit-item.result c.loop-edit-test.true c.edit-item.is in
    stops _ _ _ _ _ _ _ next c.loop-edit.invariant.0 c.in_err-write_replacement.ensures.taken _ p.0 p.1

pub returns-clause-taken : goal.returns-clause-taken
returns-clause-taken g c = ends _ _ _ _ (none_listed (replacement (slice_get c.args.sources.now c.args.file)) _ c.args.edits.now c.loop-edit.edit-index c.loop-edit-test.false) c.loop-edit.invariant.0
