use Rattle.std.proofs.Common.{[], map, ap}
use Rattle.mentions.specs.MarkViews.{body_view, marks_view}
use Rattle.meaning.specs.Tracked.{placed, locals_of}
use Rattle.tracked_rows.specs.RowViews.{known_view}
use Rattle.tracked.specs.LocalViews.{HasLocals}
use Rattle.tracked.proofs.MarksInOrder.{adds_from_none, more_locals, all_locals}
use Rattle.tracked.proofs.seen.all_locals.Goals as goal

pub loop-mark-init : goal.loop-mark-init
loop-mark-init c =
    adds_from_none c.new-locals.result (known_view c.args.known) c.args.marks.now (map body_view c.new-bodies.result.items)
    (ap (map body_view) c.new-bodies.ensures.items) c.new-locals.ensures

pub loop-mark-preserved : goal.loop-mark-preserved
loop-mark-preserved c =
    more_locals (known_view c.args.known) c.args.marks.now c.loop-mark.mark-index c.mark-item.result
    c.loop-mark-test.true c.mark-item.is c.loop-mark.bodies.items c.enter.new.bodies.items c.deref.result.now
    c.in_ok-enter.ensures c.deref.ensures.value c.loop-mark.locals c.add_locals.new.locals _
    c.in_ok-add_locals.ensures c.loop-mark.invariant

pub returns : goal.returns
returns c =
    all_locals (known_view c.args.known) c.args.marks.now c.loop-mark.mark-index c.loop-mark-test.false
    (map body_view c.loop-mark.bodies.items) c.loop-mark.locals
    (λ end. HasLocals end (locals_of (known_view c.args.known) (placed [] (marks_view c.args.marks.now)))) c.loop-mark.invariant
