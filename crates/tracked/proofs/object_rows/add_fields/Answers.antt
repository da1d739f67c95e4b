use Rattle.std.proofs.Common.{map, refl, ap}
use Rattle.meaning.specs.Objects.{field_local, field_locals}
use Rattle.tracked.specs.LocalViews.{object_kind_view, object_row_view, AddsLocals}
use Rattle.tracked.proofs.Added.{next_added, all_added, adds_same}
use Rattle.tracked.proofs.object_rows.add_fields.Goals as goal

pub loop-row-preserved : goal.loop-row-preserved
loop-row-preserved c =
    let all = map object_row_view c.args.rows.now in
    next_added (λ rs. field_locals all (map object_row_view rs)) (λ rs. field_locals all (map object_row_view rs)) c.args.rows.now
    c.loop-row.row-index c.row-item.result c.loop-row-test.true c.row-item.is _ refl c.loop-row.locals c.add_field.new.locals
    (λ end. AddsLocals c.args.locals.now end (field_locals all all))
    (adds_same c.loop-row.locals c.add_field.new.locals _ _
    (ap (field_local (object_kind_view c.row-item.result.kind) (object_row_view c.row-item.result)) c.first_place.ensures)
    c.in_ok-add_field.ensures)
    c.loop-row.invariant

pub returns : goal.returns
returns c =
    let all = map object_row_view c.args.rows.now in
    all_added (λ rs. field_locals all (map object_row_view rs)) (λ rs. field_locals all (map object_row_view rs)) c.args.rows.now
    c.loop-row.row-index c.loop-row-test.false refl c.loop-row.locals
    (λ end. AddsLocals c.args.locals.now end (field_locals all all)) c.loop-row.invariant
