-- A node's row as a state: each variable's mask stands at the variable's place among those of its kind. And what an
-- event makes of the bits of one mask.
use Rattle.std.specs.Prelude.{ℕ, zero, suc, ◌≡◌, ◌+◌, ◌<◌, ◌≤◌, Bool, true, false, not, ◌&&◌, ◌||◌, List, [], ◌∷◌, ◌++◌, Some, slice_get, slice_index_or}
use Rattle.meaning.specs.BodyEvents.{Variable}
use Rattle.meaning.specs.Classes.{Promises}
use Rattle.meaning.specs.FunctionFacts.{VariableKind, cancel, group}
use Rattle.meaning.specs.Uses.{Event}
use Rattle.tree.specs.declared.edition.Edition.TheVariants.{Second}
use Rattle.bodies.specs.BitSteps.{cancel_step, group_step}
use Rattle.bodies.specs.Masks.{is_set}
use Rattle.bodies.specs.MaskTests.{has_known_bits}
use Rattle.bodies.specs.States.{has_bit, mask_from, has_place, first_bit, mask_bits}
use Rattle.bodies.specs.declared.state.TheConstants.{CANCEL_BITS}

-- Variables of a kind

abbrev pub number_if : VariableKind → VariableKind → ℕ → List ℕ
number_if cancel cancel n = n ∷ []
number_if cancel group n = []
number_if group cancel n = []
number_if group group n = n ∷ []

-- the numbers of the variables of that kind, in their order
abbrev pub numbers_of : VariableKind → List Variable → List ℕ
numbers_of kind [] = []
numbers_of kind (v ∷ vs) = number_if kind v.kind v.number ++ numbers_of kind vs

-- one more, if the kinds are the same
abbrev pub next_if : VariableKind → VariableKind → ℕ → ℕ
next_if cancel cancel n = suc n
next_if cancel group n = n
next_if group cancel n = n
next_if group group n = suc n

-- how many variables of that kind stand before the one of the place i
abbrev pub place_of : VariableKind → List Variable → ℕ → ℕ
place_of kind [] i = 0
place_of kind (v ∷ vs) zero = 0
place_of kind (v ∷ vs) (suc i) = next_if kind v.kind (place_of kind vs i)

-- States

-- a state takes the mask at that place among those of the kind: it has the place, and no bit is set of no class in any
-- edition
abbrev pub is_taken : VariableKind → ℕ → ℕ → Bool
is_taken kind place mask = has_place kind place && has_known_bits Second kind mask

-- it is taken, and stands there
pub record IsLoaded (kind : VariableKind) (place mask : ℕ) (words : List ℕ) : Type 0 where
  pub is_taken : is_taken kind place mask ≡ true
  pub bits : (bit : ℕ) → bit < mask_bits kind → mask_from words (first_bit kind place) bit ≡ is_set mask bit

-- the bit is none of so many from the first on
abbrev pub IsApart : ℕ → ℕ → ℕ → Type 0
IsApart first count bit = first ≤ bit → first + count ≤ bit

-- the masks of the first of these variables stand at their places, and no other bit is set
pub record AreLoaded (vs : List Variable) (masks : List ℕ) (count : ℕ) (words : List ℕ) : Type 0 where
  pub each : (i : ℕ) (v : Variable)
      → i < count
      → slice_get vs i ≡ Some v
      → IsLoaded v.kind (place_of v.kind vs i) (slice_index_or masks i 0) words
  pub others : (bit : ℕ)
      → ((i : ℕ) (v : Variable)
      → i < count
      → slice_get vs i ≡ Some v
      → IsApart (first_bit v.kind (place_of v.kind vs i)) (mask_bits v.kind) bit)
      → has_bit words bit ≡ false

-- Steps

-- what the event makes of the bit of the variable of that number, where these groups have bits
abbrev pub step_of : Promises → List ℕ → Event → ℕ → VariableKind → ℕ → ℕ
step_of p groups e number cancel = cancel_step p number groups e
step_of p groups e number group = group_step p number e

-- each number below that one passes the test
abbrev pub all_below : (ℕ → Bool) → ℕ → Bool
all_below test zero = true
all_below test (suc n) = test n && all_below test n

-- to what the step takes each bit of the first mask is in the second
abbrev pub steps_into : (ℕ → ℕ) → ℕ → ℕ → Bool
steps_into step before after = all_below (λ bit. not (is_set before bit) || is_set after (step bit)) CANCEL_BITS
