use Rattle.std.proofs.Common.{◌≡◌, ℕ, ◌≤◌, ◌++◌, length, drop, map, nat_eq}
use Rattle.std.specs.Prelude.{◌==◌}
use Rattle.std.specs.List.{list_any}
use Rattle.events.specs.ToldViews.{if_there}
use Rattle.lists.specs.ListViews.{items_at}
use Rattle.mentions.specs.MarkViews.{body_view}
use Rattle.events.specs.VariableViews.{body_sightings}
use Rattle.events.proofs.sightings.add_in_bodies.Given as goal

-- those of the bodies from the index on were added
abbrev pub invariant-loop-index : goal.invariant-loop-index
invariant-loop-index l =
    ((n : ℕ) → items_at l.sightings n
    ≡ items_at l.initial.sightings n
    ++ if_there (nat_eq l.mention.number n) (body_sightings l.mention.declaring l.mention.at (map body_view (drop l.index l.bodies))))
    × (l.is_captured ≡ list_any (λ b. b.at == l.mention.declaring) (map body_view (drop l.index l.bodies)))
    × (l.index ≤ length l.bodies)

abbrev pub decreases-loop-index : goal.decreases-loop-index
decreases-loop-index l = l.index
