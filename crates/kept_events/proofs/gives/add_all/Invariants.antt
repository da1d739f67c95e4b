use Rattle.std.proofs.Common.{◌≡◌, ◌++◌, drop, map, flat_map}
use Rattle.mentions.specs.MarkViews.{body_view}
use Rattle.tracked.specs.LocalViews.{seen_view}
use Rattle.tracked_rows.specs.EventViews.{event_view}
use Rattle.meaning.specs.Kept.{gift_events}
use Rattle.kept_forms.specs.FormViews.{gift_view}
use Rattle.kept_events.proofs.gives.add_all.Given as goal

-- what was added, with what is left, is the whole
abbrev pub invariant-loop-gift : goal.invariant-loop-gift
invariant-loop-gift l =
    map event_view l.events.items
    ++ flat_map (gift_events (seen_view l.here.around.seen.now) (map body_view l.here.around.bodies.now))
    (map gift_view (drop l.gift-index l.gifts))
    ≡ map event_view l.initial.events.items
    ++ flat_map (gift_events (seen_view l.here.around.seen.now) (map body_view l.here.around.bodies.now)) (map gift_view l.gifts)
