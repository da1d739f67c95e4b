-- A set of classes of each of a body's variables, packed into words. The k-th cancel variable has its mask in the 16
-- bits from 16 times (k mod 4) on of the word k div 4, and the k-th group in the 4 bits from 4 k on of the last word,
-- both counted from 0. So the bits of all words have numbers: the mask of the k-th cancel variable begins with the bit
-- 16 k, and that of the k-th group with 768 + 4 k.
use Rattle.std.specs.Prelude.{ℕ, ◌≡◌, ◌↔◌, ◌+◌, ◌*◌, ◌/◌, ◌%◌, ◌<◌, ◌≤◌, Bool, true, List, length, Some, nat_lt, slice_get, slice_index_or}
use Rattle.meaning.specs.declared.TheConstants.{MOST_CANCELS, MOST_GROUPS}
use Rattle.meaning.specs.Classes.{Promises}
use Rattle.meaning.specs.FunctionFacts.{VariableKind, cancel, group}
use Rattle.meaning.specs.Uses.{Event}
use Rattle.bodies.specs.declared.bits.TheConstants.{GROUP_CLASSES}
use Rattle.bodies.specs.declared.state.TheConstants.{WORD_BITS, CANCEL_BITS, CANCELS_BEGIN, GROUPS_BEGIN}
use Rattle.bodies.specs.declared.state.StateVariables.{StateVariables}
use Rattle.bodies.specs.Masks.{is_set}
use Rattle.bodies.specs.BitSteps.{cancel_step, group_step}

-- the bit of that number is set
abbrev pub has_bit : List ℕ → ℕ → Bool
has_bit words bit = is_set (slice_index_or words (bit / WORD_BITS) 0) (bit % WORD_BITS)

-- whether each bit of a mask is set, where the mask begins with that bit of the words
abbrev pub mask_from : List ℕ → ℕ → ℕ → Bool
mask_from words first bit = has_bit words (first + bit)

-- the masks of the k-th cancel variable and of the k-th group begin there
abbrev pub cancel_first : ℕ → ℕ
cancel_first k = CANCELS_BEGIN + k * CANCEL_BITS

abbrev pub group_first : ℕ → ℕ
group_first k = GROUPS_BEGIN + k * GROUP_CLASSES

-- the state has a place for the k-th variable of that kind
abbrev pub has_place : VariableKind → ℕ → Bool
has_place cancel k = nat_lt k MOST_CANCELS
has_place group k = nat_lt k MOST_GROUPS

-- its mask begins with that bit, and has so many
abbrev pub first_bit : VariableKind → ℕ → ℕ
first_bit cancel k = cancel_first k
first_bit group k = group_first k

abbrev pub mask_bits : VariableKind → ℕ
mask_bits cancel = CANCEL_BITS
mask_bits group = GROUP_CLASSES

-- so many bits from that one on are those of the mask, and all others are as before
pub record Sets (first count mask : ℕ) (before after : List ℕ) : Type 0 where
  pub here : (bit : ℕ) → bit < count → mask_from after first bit ≡ is_set mask bit
  pub others : (bit : ℕ) → (first ≤ bit → first + count ≤ bit) → has_bit after bit ≡ has_bit before bit

-- Changes

-- among so many bits those are set to which the step takes one that was set
abbrev pub IsImage : ℕ → (ℕ → ℕ) → (ℕ → Bool) → (ℕ → Bool) → Type 0
IsImage count step before after =
    (to : ℕ)
    → to < count
    → (after to ≡ true)
    ↔ ((from : ℕ) × (from < count) × (before from ≡ true) × (step from ≡ to))

-- the variables have places in a state
pub record Fit (vs : StateVariables) : Type 0 where
  pub cancels : length vs.cancels.now ≤ MOST_CANCELS
  pub groups : length vs.groups.now ≤ MOST_GROUPS
  pub pending : length vs.pending.now ≤ MOST_GROUPS

-- the mask of each variable is changed by the event, and no other bit
pub record Applies (p : Promises) (e : Event) (vs : StateVariables) (before after : List ℕ) : Type 0 where
  pub cancels : (k number : ℕ)
      → slice_get vs.cancels.now k ≡ Some number
      → IsImage CANCEL_BITS (cancel_step p number vs.pending.now e)
      (mask_from before (cancel_first k)) (mask_from after (cancel_first k))
  pub groups : (k number : ℕ)
      → slice_get vs.groups.now k ≡ Some number
      → IsImage GROUP_CLASSES (group_step p number e)
      (mask_from before (group_first k)) (mask_from after (group_first k))
  pub past_cancels : (bit : ℕ)
      → cancel_first (length vs.cancels.now) ≤ bit
      → bit < GROUPS_BEGIN
      → has_bit after bit ≡ has_bit before bit
  pub past_groups : (bit : ℕ) → group_first (length vs.groups.now) ≤ bit → has_bit after bit ≡ has_bit before bit
