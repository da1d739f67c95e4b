-- What the program keeps of the sites of a body, and what that stands for.
use Rattle.std.specs.Prelude.{ℕ, ◌≡◌, ◌||◌, false, nat_eq, []}
use Rattle.indexmap.specs.IndexSet.{contains}
use Rattle.lists.specs.ListViews.{items_at, added}
use Rattle.body_code.specs.declared.sites.Sites.{Sites as KeptSites}
use Rattle.meaning.specs.StatementCode.{Sites}

module _ {E : Type 0} where
  abbrev pub sites_view : KeptSites E → Sites E
  sites_view sites = record {
    other = sites.other;
    events = items_at sites.events;
    panics = contains nat_eq sites.panics;
    returns = sites.returns;
  }

  -- no site has an event
  pub record IsEmpty (other returns : E) (sites : Sites E) : Type 0 where
    pub silent : sites.other ≡ other
    pub at_end : sites.returns ≡ returns
    pub events : (at : ℕ) → sites.events at ≡ []
    pub panics : (at : ℕ) → sites.panics at ≡ false

  pub record AddsEvent (at : ℕ) (event : E) (before after : Sites E) : Type 0 where
    pub silent : after.other ≡ before.other
    pub at_end : after.returns ≡ before.returns
    pub events : (n : ℕ) → after.events n ≡ added at event (before.events n) n
    pub panics : (n : ℕ) → after.panics n ≡ before.panics n

  pub record AddsPanic (at : ℕ) (before after : Sites E) : Type 0 where
    pub silent : after.other ≡ before.other
    pub at_end : after.returns ≡ before.returns
    pub events : (n : ℕ) → after.events n ≡ before.events n
    pub panics : (n : ℕ) → after.panics n ≡ (nat_eq at n || before.panics n)
