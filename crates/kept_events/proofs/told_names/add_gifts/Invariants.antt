use Rattle.std.proofs.Common.{◌≡◌, ℕ, List, ◌++◌, drop, map, Bor}
use Rattle.mentions.specs.MarkViews.{body_view}
use Rattle.tracked.specs.LocalViews.{seen_view}
use Rattle.kept_forms.specs.FormViews.{gift_view}
use Rattle.kept_events.specs.KeptEventViews.{gift_names}
use Rattle.kept_events.proofs.told_names.add_gifts.Given as goal

-- what was added, with what is left, is the whole
abbrev pub invariant-loop-gift : goal.invariant-loop-gift
invariant-loop-gift l =
    map (λ (n : Bor (List ℕ)). n.now) l.names.items
    ++ gift_names (seen_view l.here.around.seen.now) (map body_view l.here.around.bodies.now)
    (map gift_view (drop l.gift-index l.gifts))
    ≡ map (λ (n : Bor (List ℕ)). n.now) l.initial.names.items
    ++ gift_names (seen_view l.here.around.seen.now) (map body_view l.here.around.bodies.now) (map gift_view l.gifts)
