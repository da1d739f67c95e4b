-- What an event makes of the numbers of classes, as bits of a mask.
use Rattle.std.specs.Prelude.{ℕ, List, Option, option_and_then, unwrap_or}
use Rattle.bodies.specs.Bits.{cancel_bit, cancel_class, group_class}
use Rattle.bodies.specs.Masks.{bit_of_group}
use Rattle.meaning.specs.Classes.{Promises, change_cancel, change_group}
use Rattle.meaning.specs.Uses.{Event}

-- What a change of classes makes of a bit. A bit that stands for no class stays, and so does one whose class comes to
-- be one without a bit.
abbrev pub bit_after : {K : Type 0} → (ℕ → Option K) → (K → Option ℕ) → (K → K) → ℕ → ℕ
bit_after class_of bit_of change bit = unwrap_or (option_and_then (λ k. bit_of (change k)) (class_of bit)) bit

-- what an event makes of the bit of the cancel variable v, where these groups have bits
abbrev pub cancel_step : Promises → ℕ → List ℕ → Event → ℕ → ℕ
cancel_step p v groups e = bit_after (cancel_class groups) (cancel_bit groups) (change_cancel p v e)

-- what an event makes of the bit of the group v
abbrev pub group_step : Promises → ℕ → Event → ℕ → ℕ
group_step p v e = bit_after group_class bit_of_group (change_group p v e)
