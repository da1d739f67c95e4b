-- What the program keeps of credits, and what it stands for.
use Rattle.std.specs.Prelude.{ℕ, ◌≡◌, ◌==◌, Bool, false, List, nat_eq}
use Rattle.std.specs.List.{list_any}
use Rattle.indexmap.specs.IndexMap.{get}
use Rattle.lists.specs.ListViews.{items_or_none}
use Rattle.credits.specs.declared.table.Credits.{Credits as KeptCredits}
use Rattle.meaning_packages.specs.Credits.{Credits}

-- whether it is one of these numbers
abbrev pub is_among : List ℕ → ℕ → Bool
is_among numbers number = list_any (λ n. n == number) numbers

-- whether the literal at the first number settles the variable of the second
abbrev pub has : KeptCredits → Credits
has credits literal number = is_among (items_or_none (get nat_eq credits.settled literal) (λ v. v.items)) number

abbrev pub HasNone : KeptCredits → Type 0
HasNone credits = (literal number : ℕ) → has credits literal number ≡ false

-- the literal at that offset settles the variables of these numbers, and the others settle what they did
pub record SettlesThese (literal : ℕ) (numbers : List ℕ) (before after : KeptCredits) : Type 0 where
  pub there : (number : ℕ) → has after literal number ≡ is_among numbers number
  pub others : (other number : ℕ) → nat_eq literal other ≡ false → has after other number ≡ has before other number
