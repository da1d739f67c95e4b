use Rattle.std.proofs.Common.{map}
use Rattle.mentions.specs.MarkViews.{body_view}
use Rattle.tracked_rows.specs.RowViews.{known_view}
use Rattle.tracked.proofs.MarksInOrder.{more_noted, all_noted_there}
use Rattle.tracked.proofs.seen.note_all.Goals as goal

pub loop-mark-preserved : goal.loop-mark-preserved
loop-mark-preserved c = λ n.
    more_noted (known_view c.args.known) c.args.marks.now c.loop-mark.mark-index c.mark-item.result
    c.loop-mark-test.true c.mark-item.is c.loop-mark.bodies.items c.enter.new.bodies.items c.deref.result.now
    c.in_ok-enter.ensures c.deref.ensures.value n c.loop-mark.entries c.note.new.entries _
    c.in_ok-note.ensures (c.loop-mark.invariant n)

pub returns : goal.returns
returns c = λ n.
    all_noted_there (known_view c.args.known) c.args.marks.now c.loop-mark.mark-index c.loop-mark-test.false
    (map body_view c.loop-mark.bodies.items) n c.loop-mark.entries _ (c.loop-mark.invariant n)
