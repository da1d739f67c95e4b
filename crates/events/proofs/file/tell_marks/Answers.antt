use Rattle.std.proofs.Common.{[], map, ap}
use Rattle.tracked.specs.LocalViews.{seen_view}
use Rattle.meaning.specs.Tracked.{placed}
use Rattle.mentions.specs.MarkViews.{body_view, marks_view}
use Rattle.events.proofs.MarksTold.{tells_next, tells_last}
use Rattle.events.proofs.file.tell_marks.Goals as goal

pub loop-mark-preserved : goal.loop-mark-preserved
loop-mark-preserved c =
    tells_next (seen_view c.args.seen.now) c.deref-mark-items.result.now c.loop-mark.mark-index c.mark-item.result
    c.loop-mark-test.true c.mark-item.is c.loop-mark.bodies.items c.enter.new.bodies.items c.deref.result.now
    c.in_ok-enter.ensures c.deref.ensures.value _ c.loop-mark.told c.add_mark.new.told c.in_ok-add_mark.ensures
    c.loop-mark.invariant

pub returns : goal.returns
returns c =
    tells_last (seen_view c.args.seen.now) c.deref-mark-items.result.now c.loop-mark.mark-index c.loop-mark-test.false
    (map body_view c.loop-mark.bodies.items) (placed [] (marks_view c.deref-mark-items.result.now))
    (ap (λ ms. placed [] (marks_view ms)) c.deref-mark-items.ensures.value) c.loop-mark.told c.loop-mark.invariant
    c.order_by_place.new.bodies c.in_ok-order_by_place.ensures

pub add_mark-requires : goal.add_mark-requires
add_mark-requires c = record { bodies = c.requires.bodies; keeps = c.requires.keeps }
