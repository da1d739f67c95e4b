use Rattle.std.proofs.Common.{[], map, ◌∙◌}
use Rattle.meaning.specs.Tracked.{placed}
use Rattle.mentions.specs.MarkViews.{body_view, marks_view}
use Rattle.tracked_rows.specs.RowViews.{known_view}
use Rattle.tracked.specs.LocalViews.{object_row_view, unbound_in}
use Rattle.objects.proofs.RowsInOrder.{all_rows, next_row, no_more}
use Rattle.objects.proofs.rows.object_rows.Goals as goal

pub loop-mark-preserved : goal.loop-mark-preserved
loop-mark-preserved c =
    next_row (known_view c.args.known) (placed [] (marks_view c.args.marks.now)) (unbound_in c.args.objects.now) c.args.marks.now c.loop-mark.mark-index
    c.mark-item.result c.loop-mark-test.true c.mark-item.is c.loop-mark.bodies.items c.enter.new.bodies.items c.deref.result.now
    c.in_ok-enter.ensures c.deref.ensures.value c.loop-mark.rows.items c.add_row.new.rows.items _ _ c.in_ok-row.ensures
    c.in_ok-add_row.ensures c.loop-mark.invariant

pub returns : goal.returns
returns c =
    no_more (known_view c.args.known) (placed [] (marks_view c.args.marks.now)) (unbound_in c.args.objects.now) c.args.marks.now c.loop-mark.mark-index
    c.loop-mark-test.false (map body_view c.loop-mark.bodies.items) (map object_row_view c.loop-mark.rows.items) _
    c.loop-mark.invariant
    ∙ all_rows (known_view c.args.known) (placed [] (marks_view c.args.marks.now)) (unbound_in c.args.objects.now) c.requires
