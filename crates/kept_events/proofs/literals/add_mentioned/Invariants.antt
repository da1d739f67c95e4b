use Rattle.std.proofs.Common.{◌≡◌, ◌++◌, drop, map, flat_map}
use Rattle.mentions.specs.MarkViews.{body_view}
use Rattle.tracked.specs.LocalViews.{seen_view}
use Rattle.tracked_rows.specs.EventViews.{event_view}
use Rattle.meaning.specs.Kept.{first_mentions}
use Rattle.kept_events.specs.KeptEventViews.{gives_first, gives_left}
use Rattle.literal_mentions.specs.LiteralViews.{mention_at_view}
use Rattle.kept_events.proofs.literals.add_mentioned.Given as goal

-- what was added, with what those that are left give for the first time, is the whole
abbrev pub invariant-loop-mention : goal.invariant-loop-mention
invariant-loop-mention l =
    map event_view l.events.items
    ++ gives_left (seen_view l.here.around.seen.now) (map body_view l.here.around.bodies.now) l.given.items
    (first_mentions (map mention_at_view (drop l.mention-index l.mentions)))
    ≡ map event_view l.initial.events.items
    ++ flat_map (gives_first (seen_view l.here.around.seen.now) (map body_view l.here.around.bodies.now))
    (first_mentions (map mention_at_view l.mentions))
