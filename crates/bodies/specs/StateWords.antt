-- How the program keeps the words of states: masks that lie in one word, and how far words can grow.
use Rattle.std.specs.Prelude.{ℕ, ◌≡◌, ◌+◌, ◌-◌, ◌*◌, ◌%◌, ◌^◌, ◌<◌, ◌≤◌, List, Some, slice_get, sum_by}
use Rattle.bodies.specs.declared.state.TheConstants.{WORD_BITS, STATE_WORDS}
use Rattle.bodies.specs.States.{has_bit, mask_from, IsImage}

-- so many bits from that one on lie in one word
abbrev pub IsWithinWord : ℕ → ℕ → Type 0
IsWithinWord first count = first % WORD_BITS + count ≤ WORD_BITS

-- the step stays among so many bits
abbrev pub StaysBelow : ℕ → (ℕ → ℕ) → Type 0
StaysBelow count step = (bit : ℕ) → bit < count → step bit < count

-- so many bits from that one on are changed by the step, and no others
pub record Changes (first count : ℕ) (step : ℕ → ℕ) (before after : List ℕ) : Type 0 where
  pub is_image : IsImage count step (mask_from before first) (mask_from after first)
  pub others : (bit : ℕ) → (first ≤ bit → first + count ≤ bit) → has_bit after bit ≡ has_bit before bit

-- of so many of these numbers the masks are changed, each by its step, and no others; the first begins with that bit
pub record ChangesFirst
    (begin width : ℕ) (step : ℕ → ℕ → ℕ) (numbers : List ℕ) (count : ℕ) (before after : List ℕ)
    : Type 0 where
  pub each : (k number : ℕ)
      → k < count
      → slice_get numbers k ≡ Some number
      → IsImage width (step number) (mask_from before (begin + k * width)) (mask_from after (begin + k * width))
  pub others : (bit : ℕ) → (begin ≤ bit → begin + count * width ≤ bit) → has_bit after bit ≡ has_bit before bit

-- Growth

abbrev pub itself : ℕ → ℕ
itself word = word

-- the sum of the words, which grows with each bit
abbrev pub total : List ℕ → ℕ
total words = sum_by itself words

-- how far it can grow still: each word is at most the greatest one of so many bits
abbrev pub room : List ℕ → ℕ
room words = STATE_WORDS * (2 ^ WORD_BITS - 1) - total words
