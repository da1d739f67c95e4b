use Rattle.std.proofs.Common.{◌≡◌, ℕ, ◌&&◌, ◌++◌, map}
use Rattle.meaning.specs.BodyEvents.{is_site}
use Rattle.meaning.specs.Uses.{is_body}
use Rattle.mentions.specs.MarkViews.{body_view, mark_view}
use Rattle.tracked_rows.specs.EventViews.{event_view}
use Rattle.events.specs.ToldViews.{events_in, if_there}
use Rattle.events.proofs.told.add_events.Given as goal

-- what was added, with what is left, is the whole
abbrev pub invariant-loop-event : goal.invariant-loop-event
invariant-loop-event l =
    (body at : ℕ)
    → events_in l.events body at
    ++ if_there (is_body body (map body_view l.bodies) && is_site (mark_view l.mark) at) (map event_view l.event-iterator.rest.items)
    ≡ events_in l.initial.events body at
    ++ if_there (is_body body (map body_view l.bodies) && is_site (mark_view l.mark) at) (map event_view l.fn.fresh.items)
