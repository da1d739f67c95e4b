-- Loops that add to the sites of a body: what was added, with what is left, is the whole.
use Rattle.std.proofs.Common.{◌≡◌, ℕ, Bool, ◌||◌, List, ◌++◌, map}
use Rattle.std.specs.Prelude.{◌==◌}
use Rattle.std.specs.List.{list_any}
use Rattle.meaning.specs.StatementCode.{Sites}
use Rattle.events.specs.declared.told.SiteEvent.{SiteEvent}
use Rattle.events.specs.ToldViews.{events_of_site}
use Rattle.bodies.specs.declared.node.NodeEvent.{NodeEvent}
use Rattle.bodies.specs.NodeEvents.{node_event_view}

pub record EventsLeft (left all : List SiteEvent) (before now : Sites NodeEvent) : Type 0 where
  pub silent : now.other ≡ before.other
  pub at_end : now.returns ≡ before.returns
  pub added : (at : ℕ)
      → map node_event_view (now.events at) ++ events_of_site at left
      ≡ map node_event_view (before.events at) ++ events_of_site at all
  pub panics : (at : ℕ) → now.panics at ≡ before.panics at

abbrev pub is_among : List ℕ → ℕ → Bool
is_among sites at = list_any (λ site. site == at) sites

pub record PanicsLeft (left all : List ℕ) (before now : Sites NodeEvent) : Type 0 where
  pub silent : now.other ≡ before.other
  pub at_end : now.returns ≡ before.returns
  pub events : (at : ℕ) → now.events at ≡ before.events at
  pub added : (at : ℕ) → (now.panics at || is_among left at) ≡ (before.panics at || is_among all at)
