-- What the program keeps of groups that may be live, and what it stands for.
use Rattle.std.specs.Prelude.{ℕ, ◌≡◌, ◌||◌, Bool}
use Rattle.indexmap.specs.IndexSet.{contains}
use Rattle.path_faults.specs.declared.live.LivePlace.{LivePlace}
use Rattle.path_faults.specs.declared.live.LiveGroups.{LiveGroups}
use Rattle.path_faults.specs.FoundFaults.{is_same_place}

abbrev pub same_place : LivePlace → LivePlace → Bool
same_place p q = is_same_place p.at p.order p.group q.at q.order q.group

-- the group of that place may be live at that offset in that order
abbrev pub has_live : LiveGroups → ℕ → ℕ → ℕ → Bool
has_live live at order group = contains same_place live.places record { at = at; order = order; group = group }

-- those are added that pass the test
abbrev pub AddsLive : LiveGroups → LiveGroups → (ℕ → ℕ → ℕ → Bool) → Type 0
AddsLive before after adds = (at order group : ℕ)
    → has_live after at order group ≡ (has_live before at order group || adds at order group)
