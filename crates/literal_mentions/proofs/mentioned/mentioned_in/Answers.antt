use Rattle.std.proofs.Common.{[], map, ap, ◌∙◌}
use Rattle.mentions.specs.MarkViews.{body_view, marks_view}
use Rattle.meaning.specs.Tracked.{placed}
use Rattle.tracked_rows.specs.RowViews.{known_view}
use Rattle.literal_mentions.proofs.LiteralMentions.{mentioned_among, mentioned_next, mentioned_last}
use Rattle.literal_mentions.proofs.mentioned.mentioned_in.Goals as goal

pub loop-mark-preserved : goal.loop-mark-preserved
loop-mark-preserved c =
    mentioned_next (known_view c.args.seen.now.known) c.args.literal c.deref-mark-items.result.now c.loop-mark.mark-index
    c.mark-item.result c.loop-mark-test.true c.mark-item.is c.loop-mark.bodies.items c.enter.new.bodies.items
    c.deref.result.now c.in_ok-enter.ensures c.deref.ensures.value c.loop-mark.found.items c.add_inside.new.found.items _
    c.in_ok-add_inside.ensures c.loop-mark.invariant

pub returns : goal.returns
returns c =
    mentioned_last (known_view c.args.seen.now.known) c.args.literal c.deref-mark-items.result.now c.loop-mark.mark-index
    c.loop-mark-test.false (map body_view c.loop-mark.bodies.items) c.loop-mark.found.items _ c.loop-mark.invariant
    ∙ ap (λ ms. mentioned_among (known_view c.args.seen.now.known) c.args.literal (placed [] (marks_view ms)))
    c.deref-mark-items.ensures.value
