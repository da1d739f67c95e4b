use Rattle.std.proofs.Common.{◌≡◌, ℕ, ◌&&◌, ◌||◌, drop, map}
use Rattle.std.specs.Prelude.{◌==◌}
use Rattle.meaning.specs.BodyEvents.{is_around}
use Rattle.mentions.specs.MarkViews.{body_view}
use Rattle.events.specs.ToldViews.{has_bound}
use Rattle.events.proofs.bound.add_around.Given as goal

-- what was added, with what is left, is the whole
abbrev pub invariant-loop-body : goal.invariant-loop-body
invariant-loop-body l =
    (b other : ℕ)
    → (has_bound l.bound b other || (is_around b (map body_view (drop l.body-index l.bodies)) && (l.number == other)))
    ≡ (has_bound l.initial.bound b other || (is_around b (map body_view l.bodies) && (l.number == other)))
