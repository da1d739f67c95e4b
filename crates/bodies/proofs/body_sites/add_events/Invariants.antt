use Rattle.std.proofs.Common.{drop}
use Rattle.body_code.specs.SiteViews.{sites_view}
use Rattle.bodies.proofs.SitesAdded.{EventsLeft}
use Rattle.bodies.proofs.body_sites.add_events.Given as goal

-- what was added, with what is left, is the whole
abbrev pub invariant-loop-event : goal.invariant-loop-event
invariant-loop-event l =
    EventsLeft (drop l.event-index l.events) l.events (sites_view l.initial.sites) (sites_view l.sites)
