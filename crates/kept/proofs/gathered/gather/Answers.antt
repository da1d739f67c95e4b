use Rattle.std.proofs.Common.{[], map, ap}
use Rattle.mentions.specs.MarkViews.{body_view, marks_view}
use Rattle.meaning.specs.Tracked.{placed}
use Rattle.tracked.specs.LocalViews.{seen_view}
use Rattle.kept.proofs.Gatherings.{gathers_first, gathers_next, gathers_last}
use Rattle.kept.proofs.gathered.gather.Goals as goal

pub loop-mark-init : goal.loop-mark-init
loop-mark-init c =
    gathers_first (seen_view c.args.seen.now) (map body_view c.new-bodies.result.items)
    (ap (map body_view) c.new-bodies.ensures.items) (marks_view c.deref-mark-items.result.now) _ c.new.ensures.items
    c.new-2.ensures.items

pub loop-mark-preserved : goal.loop-mark-preserved
loop-mark-preserved c =
    gathers_next (seen_view c.args.seen.now) c.deref-mark-items.result.now c.loop-mark.mark-index c.mark-item.result
    c.loop-mark-test.true c.mark-item.is c.loop-mark.bodies.items c.enter.new.bodies.items c.deref.result.now
    c.in_ok-enter.ensures c.deref.ensures.value _ c.loop-mark.gathered c.gather_in.new.gathered c.in_ok-gather_in.ensures
    c.loop-mark.invariant

pub returns : goal.returns
returns c =
    gathers_last (seen_view c.args.seen.now) c.deref-mark-items.result.now c.loop-mark.mark-index c.loop-mark-test.false
    (map body_view c.loop-mark.bodies.items) (placed [] (marks_view c.deref-mark-items.result.now))
    (ap (λ ms. placed [] (marks_view ms)) c.deref-mark-items.ensures.value) c.loop-mark.gathered c.loop-mark.invariant
