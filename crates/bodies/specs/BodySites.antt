-- The sites of a body in memory, as a file was told of.
use Rattle.std.specs.Prelude.{ℕ, ◌≡◌, ◌==◌, ◌||◌, List, ◌++◌, map}
use Rattle.std.specs.List.{list_any}
use Rattle.bodies.specs.declared.node.NodeEvent.{NodeEvent}
use Rattle.bodies.specs.declared.node.NodeEvent.TheVariants.{Other, FallsOff}
use Rattle.bodies.specs.NodeEvents.{node_event_view}
use Rattle.events.specs.declared.told.SiteEvent.{SiteEvent}
use Rattle.events.specs.declared.told.Told.{Told}
use Rattle.events.specs.ToldViews.{events_of_site, events_in, has_panic}
use Rattle.meaning.specs.StatementCode.{Sites}

-- each event is added to those of its site
pub record AddsEvents (events : List SiteEvent) (before after : Sites NodeEvent) : Type 0 where
  pub silent : after.other ≡ before.other
  pub at_end : after.returns ≡ before.returns
  pub added : (at : ℕ)
      → map node_event_view (after.events at) ≡ map node_event_view (before.events at) ++ events_of_site at events
  pub panics : (at : ℕ) → after.panics at ≡ before.panics at

-- these sites panic too
pub record AddsPanics (sites : List ℕ) (before after : Sites NodeEvent) : Type 0 where
  pub silent : after.other ≡ before.other
  pub at_end : after.returns ≡ before.returns
  pub events : (at : ℕ) → after.events at ≡ before.events at
  pub added : (at : ℕ) → after.panics at ≡ (before.panics at || list_any (λ site. site == at) sites)

-- they give what was told of the body
pub record TellsSites (told : Told) (body : ℕ) (sites : Sites NodeEvent) : Type 0 where
  pub silent : sites.other ≡ Other
  pub at_end : sites.returns ≡ FallsOff
  pub events : (at : ℕ) → map node_event_view (sites.events at) ≡ events_in told.events body at
  pub panics : (at : ℕ) → sites.panics at ≡ has_panic told.panics body at
