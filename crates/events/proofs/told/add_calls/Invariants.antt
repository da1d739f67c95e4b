use Rattle.std.proofs.Common.{◌≡◌, ℕ, ◌&&◌, ◌++◌, drop, map}
use Rattle.meaning.specs.BodyEvents.{is_site}
use Rattle.meaning.specs.Uses.{call, is_body}
use Rattle.mentions.specs.MarkViews.{body_view, mark_view}
use Rattle.events.specs.ToldViews.{events_in, if_there}
use Rattle.events.proofs.told.add_calls.Given as goal

-- what was added, with what is left, is the whole
abbrev pub invariant-loop-variable : goal.invariant-loop-variable
invariant-loop-variable l =
    (body at : ℕ)
    → events_in l.events body at
    ++ if_there (is_body body (map body_view l.bodies) && is_site (mark_view l.mark) at) (map call (drop l.variable-index l.variables))
    ≡ events_in l.initial.events body at
    ++ if_there (is_body body (map body_view l.bodies) && is_site (mark_view l.mark) at) (map call l.variables)
