use Rattle.std.proofs.Common.{◌++◌, map, ap, ◌∙◌}
use Rattle.std.proofs.lemmas.List.{get_or_default}
use Rattle.mentions.specs.MarkViews.{body_view}
use Rattle.tracked.specs.LocalViews.{seen_view}
use Rattle.tracked_rows.specs.EventViews.{event_view}
use Rattle.meaning.specs.Kept.{first_mentions}
use Rattle.kept_events.specs.KeptEventViews.{gives_left}
use Rattle.literal_mentions.specs.LiteralViews.{mention_at_view}
use Rattle.kept_events.proofs.FirstGiven.{none_given_yet, next_given}
use Rattle.kept_events.proofs.literals.add_mentioned.Goals as goal

pub loop-mention-init : goal.loop-mention-init
loop-mention-init c =
    let seen = seen_view c.args.here.around.seen.now in
    let bodies = map body_view c.args.here.around.bodies.now in
    let all = first_mentions (map mention_at_view c.args.mentions.now) in
    ap (λ l. map event_view c.args.events.now.items ++ l)
    (ap (λ ns. gives_left seen bodies ns all) c.new-given.ensures.items ∙ none_given_yet seen bodies all)

pub loop-mention-preserved : goal.loop-mention-preserved
loop-mention-preserved c =
    next_given (seen_view c.args.here.around.seen.now) (map body_view c.args.here.around.bodies.now) c.args.mentions.now
    c.loop-mention.mention-index _ c.loop-mention-test.true
    (get_or_default c.args.mentions.now c.loop-mention.mention-index _ _ c.loop-mention-test.true) _ _ _ _ _
    c.in_ok-add_first.ensures c.loop-mention.invariant
