-- What is pending in a group has a number only where the group is among those that are numbered. Solutions and rows ask
-- for that.
use Rattle.std.proofs.Common.{◌≡◌, ℕ, suc, ◌+◌, ◌<◌, Bool, true, false, if◌then◌else◌, List, [], ◌∷◌, Option, Some, None, Contains, refl, sym, ap, ◌∙◌, true≢false, arith, inl, inr}
use Rattle.std.specs.Prelude.{◌==◌, nat_lt, slice_get}
use Rattle.std.proofs.lemmas.Bool.{ltb-true}
use Rattle.std.proofs.lemmas.Bool.Decides.{eqb_tells}
use Rattle.std.proofs.lemmas.Option.{none-some, same_Some, slice_get_within, get_or_from_slice_get}
use Rattle.meaning.specs.Classes.{pending}
use Rattle.bodies.specs.Bits.{bit_from, cancel_bit}

-- the group is the k-th one, and its number is m, below that of what is kept
pub record Stands (n g : ℕ) (hs : List ℕ) (m : ℕ) : Type 0 where
  pub k : ℕ
  pub counted : m ≡ n + k
  pub at : slice_get hs k ≡ Some g
  pub below : m < 15

first_or_later : (n g h : ℕ) (hs : List ℕ) (m : ℕ) (a b : Bool)
    → (a ≡ true → n < 15)
    → (b ≡ true → g ≡ h)
    → (bit_from (suc n) g hs ≡ Some m → Stands (suc n) g hs m)
    → (if a then if b then Some n else bit_from (suc n) g hs else None) ≡ Some m
    → Stands n g (h ∷ hs) m
first_or_later n g h hs m true true small same rest e =
    let is = same_Some n m e in
    let low = small refl in
    record { k = 0; counted = omega (arith, is); at = ap Some (sym (same refl)); below = omega (arith, is, low) }
first_or_later n g h hs m true false small same rest e =
    let later = rest e in
    record {
      k = suc later.k;
      counted = let is = later.counted in omega (arith, is);
      at = later.at;
      below = later.below;
    }
first_or_later n g h hs m false b small same rest e = absurd (none-some m e)

pub same_number : (a b : ℕ) → (a == b) ≡ true → a ≡ b
same_number a b e = elim (eqb_tells a b) [ inl c ↦ c.1 | inr c ↦ absurd (true≢false (sym e ∙ c.0)) ]

pub number_itself : (a : ℕ) → (a == a) ≡ true
number_itself a = elim (eqb_tells a a) [ inl c ↦ c.0 | inr c ↦ absurd (c.1 refl) ]

pub stands : (n g : ℕ) (hs : List ℕ) (m : ℕ) → bit_from n g hs ≡ Some m → Stands n g hs m
stands n g [] m e = absurd (none-some m e)
stands n g (h ∷ hs) m e =
    first_or_later n g h hs m (nat_lt n 15) (g == h) (ltb-true n 15) (same_number g h) (stands (suc n) g hs m) e

-- what is pending in a group has a number only where the group is among these
pub pending_among : (groups : List ℕ) (g n : ℕ) → cancel_bit groups (pending g) ≡ Some n → Contains groups g
pending_among groups g n e =
    let it = stands 3 g groups n e in
    (it.k, slice_get_within groups it.k g it.at, get_or_from_slice_get groups it.k g g it.at)
