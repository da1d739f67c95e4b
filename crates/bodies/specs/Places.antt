-- Where the masks of a body's variables stand in states, and the state at the body's entry.
use Rattle.std.specs.Prelude.{ℕ, ◌≡◌, ◌+◌, ◌<◌, ◌≤◌, ◌++◌, List, [], ◌∷◌, length, filter, take, Option, Some, None, slice_get, nat_eq}
use Rattle.bodies.specs.OwnGroups.{groups_of, StartsInOwnGroups}
use Rattle.bodies.specs.Flags.{cancel_entry, group_entry}
use Rattle.bodies.specs.declared.places.Places.{Places}
use Rattle.meaning.specs.declared.TheConstants.{MOST_CANCELS, MOST_GROUPS}
use Rattle.meaning.specs.BodyEvents.{Variable, is_cancel_variable, too_many_faults}
use Rattle.meaning.specs.Code.{Code}
use Rattle.meaning.specs.FunctionFacts.{VariableKind, cancel, group}
use Rattle.meaning.specs.Uses.{Event}
use Rattle.bodies.specs.States.{has_bit, mask_from, cancel_first, group_first, mask_bits}

-- states have places for all of these variables, and bits for each class of them that the code can bring
pub record HavePlaces (c : Code Event) (vs : List Variable) : Type 0 where
  pub are_few : too_many_faults vs ≡ []
  pub own_groups : StartsInOwnGroups c vs

-- Places

-- of the mask that begins there only that bit is set
abbrev pub IsOnly : ℕ → List ℕ → ℕ → ℕ → Type 0
IsOnly count words first only = (bit : ℕ) → bit < count → mask_from words first bit ≡ nat_eq bit only

-- the variable is one of those of its kind; its mask begins there, and has that bit alone at the entry
pub record IsPlaced
    (count : ℕ) (first_of : ℕ → ℕ) (numbers words : List ℕ) (number first only : ℕ)
    : Type 0 where
  pub place : ℕ
  pub is_number : slice_get numbers place ≡ Some number
  pub is_first : first ≡ first_of place
  pub entry : IsOnly count words first only

abbrev pub IsPlacedAs : Places → Variable → ℕ → VariableKind → Type 0
IsPlacedAs s v first cancel =
    IsPlaced (mask_bits cancel) cancel_first s.cancels.items s.entry.words v.number first (cancel_entry v.role)
IsPlacedAs s v first group =
    IsPlaced (mask_bits group) group_first s.groups.items s.entry.words v.number first (group_entry v.role)

abbrev pub IsPlacedIf : Places → Variable → Option ℕ → Type 0
IsPlacedIf s v None = ⊥
IsPlacedIf s v (Some first) = IsPlacedAs s v first v.kind

-- the first of these variables, and no others, have places
pub record ArePlaced (vs : List Variable) (count : ℕ) (s : Places) : Type 0 where
  pub counted : length s.firsts.items ≡ count
  pub as_many : length s.cancels.items ≡ length (filter is_cancel_variable (take count vs))
  pub are_groups : s.groups.items ≡ groups_of (take count vs)
  pub cancels_fit : length s.cancels.items ≤ MOST_CANCELS
  pub groups_fit : length s.groups.items ≤ MOST_GROUPS
  pub each : (i : ℕ) (v : Variable)
      → i < count
      → slice_get vs i ≡ Some v
      → IsPlacedIf s v (slice_get s.firsts.items i)

-- One more variable

-- a mask begins there, of which only that bit is set now, and no other bit changed
pub record SetsOnly (count first only : ℕ) (before after : List ℕ) : Type 0 where
  pub here : IsOnly count after first only
  pub others : (bit : ℕ) → (first ≤ bit → first + count ≤ bit) → has_bit after bit ≡ has_bit before bit

pub record AddsCancel (number only : ℕ) (a b : Places) : Type 0 where
  pub fits : length a.cancels.items < MOST_CANCELS
  pub numbers : b.cancels.items ≡ a.cancels.items ++ number ∷ []
  pub others : b.groups.items ≡ a.groups.items
  pub firsts : b.firsts.items ≡ a.firsts.items ++ cancel_first (length a.cancels.items) ∷ []
  pub entry : SetsOnly (mask_bits cancel) (cancel_first (length a.cancels.items)) only a.entry.words b.entry.words

pub record AddsGroup (number only : ℕ) (a b : Places) : Type 0 where
  pub fits : length a.groups.items < MOST_GROUPS
  pub numbers : b.groups.items ≡ a.groups.items ++ number ∷ []
  pub others : b.cancels.items ≡ a.cancels.items
  pub firsts : b.firsts.items ≡ a.firsts.items ++ group_first (length a.groups.items) ∷ []
  pub entry : SetsOnly (mask_bits group) (group_first (length a.groups.items)) only a.entry.words b.entry.words

abbrev pub Adds : Variable → VariableKind → Places → Places → Type 0
Adds v cancel a b = AddsCancel v.number (cancel_entry v.role) a b
Adds v group a b = AddsGroup v.number (group_entry v.role) a b

-- no place is left for one more of the kind
abbrev pub IsFull : VariableKind → Places → Type 0
IsFull cancel s = MOST_CANCELS ≤ length s.cancels.items
IsFull group s = MOST_GROUPS ≤ length s.groups.items
