-- The items that are kept of a number, and what they are after one was added.
use Rattle.std.specs.Prelude.{ℕ, if◌then◌else◌, List, [], ◌∷◌, ◌++◌, Option, Some, None, nat_eq}
use Rattle.indexmap.specs.IndexMap.{get}
use Rattle.lists.specs.declared.Lists.{Lists}

module _ {T : Type 0} where
  abbrev pub items_or_none : {A : Type 0} → Option A → (A → List T) → List T
  items_or_none None items = []
  items_or_none (Some v) items = items v

  abbrev pub items_at : Lists T → ℕ → List T
  items_at lists n = items_or_none (get nat_eq lists.entries n) (λ v. v.items)

  abbrev pub added : ℕ → T → List T → ℕ → List T
  added number item items n = if nat_eq number n then items ++ item ∷ [] else items
