use Rattle.std.proofs.Common.{◌≡◌, ℕ, ◌++◌, [], drop, map}
use Rattle.lists.specs.ListViews.{items_at}
use Rattle.tracked.specs.LocalViews.{seen_view}
use Rattle.meaning.specs.Tracked.{placed}
use Rattle.mentions.specs.MarkViews.{body_view, marks_view}
use Rattle.events.specs.VariableViews.{sightings_of}
use Rattle.events.proofs.sightings.sightings.Given as goal

-- what was added, with what is left, is the whole
abbrev pub invariant-loop-mark : goal.invariant-loop-mark
invariant-loop-mark l =
    (n : ℕ)
    → items_at l.sightings n
    ++ sightings_of (seen_view l.seen) n (placed (map body_view l.bodies.items) (marks_view (drop l.mark-index l.mark-items)))
    ≡ sightings_of (seen_view l.seen) n (placed [] (marks_view l.mark-items))
