use Rattle.std.proofs.Common.{◌≡◌, ◌++◌, drop, map, flat_map}
use Rattle.mentions.specs.MarkViews.{body_view}
use Rattle.tracked.specs.LocalViews.{seen_view}
use Rattle.tracked_rows.specs.EventViews.{handed_view}
use Rattle.meaning.specs.Kept.{handed_gift}
use Rattle.kept_forms.specs.FormViews.{gift_view}
use Rattle.kept_events.proofs.returned.add_gifts.Given as goal

-- what was added, with what is left, is the whole
abbrev pub invariant-loop-gift : goal.invariant-loop-gift
invariant-loop-gift l =
    map handed_view l.handed.items
    ++ flat_map (handed_gift (seen_view l.here.around.seen.now) (map body_view l.here.around.bodies.now) l.position)
    (map gift_view (drop l.gift-index l.gifts))
    ≡ map handed_view l.initial.handed.items
    ++ flat_map (handed_gift (seen_view l.here.around.seen.now) (map body_view l.here.around.bodies.now) l.position)
    (map gift_view l.gifts)
