-- What is tested of the classes in a mask is what is meant.
use Rattle.std.proofs.Common.{◌≡◌, ◌↔◌, ◌==◌, ℕ, zero, suc, ◌+◌, ◌%◌, ◌<◌, ◌≤◌, ◌^◌, Bool, true, false, ◌&&◌, IsTrue, List, [], ◌∷◌, Option, Some, None, option_map, Contains, refl, sym, ap, ◌∙◌, subst, arith, inl, inr, lt_of_lt_of_le, pow_mono}
use native.Mathlib.Nat.{div-eq_of_lt}
use Rattle.std.specs.Prelude.{◌||◌, nat_lt, slice_get}
use Rattle.std.proofs.lemmas.Bool.{false≢true, and_parts, and_from, or_cases, or_left, or_right, eqb-true, eq-eqb, ltb-true, lt-ltb, le-ltb}
use Rattle.std.proofs.lemmas.Option.{none-some, same_Some, slice_get_within, get_or_from_slice_get}
use Rattle.tree.specs.declared.edition.Edition.{Edition}
use Rattle.meaning.specs.FunctionFacts.{VariableKind}
use Rattle.meaning.specs.Classes.{CancelClass, unset, opened, kept, safe, pending, GroupClass}
use Rattle.bodies.specs.Bits.{cancel_class, group_bit, group_class}
use Rattle.bodies.specs.Masks.{is_set, classes_of, HasKnownBits, Has, MayBe}
use Rattle.bodies.specs.MaskTests.{is_in, has, may_be_pending, may_be_cancel, may_be_group}
use Rattle.bodies.specs.MaskTests as tested
use Rattle.bodies.proofs.ClassNumbers.{behind_pending, StandsBehind, is_kept, is_pending, stands_behind, group_inverse}

-- a number of 16 bits has no other ones
pub no_high_bit : (mask bit : ℕ) → mask < 2 ^ 16 → 16 ≤ bit → is_set mask bit ≡ false
no_high_bit mask bit fits past =
    ap (λ n. n % 2 == 1) (div-eq_of_lt (lt_of_lt_of_le fits (pow_mono past)))

-- what a test says that is proved to say it
pub by_test : (result test : Bool) (P : Type 0) → result ≡ test → IsTrue test ↔ P → IsTrue result ↔ P
by_test result test P same is = subst (λ t. IsTrue t ↔ P) (sym same) is

pub known_bits : (edition : Edition) (kind : VariableKind) (mask : ℕ)
    → IsTrue (tested.has_known_bits edition kind mask) ↔ HasKnownBits edition kind mask
known_bits edition kind mask =
    (ltb-true mask (2 ^ classes_of edition kind), lt-ltb mask (2 ^ classes_of edition kind))

-- The bit of a class

module _ {K : Type 0} (bit_of : K → Option ℕ) (mask : ℕ) (k : K) where
  has_in : (o : Option ℕ) → bit_of k ≡ o → is_in mask o ≡ true → Has bit_of mask k
  has_in None is e = absurd (false≢true e)
  has_in (Some bit) is e = record { bit = bit; is_bit = is; is_in = e }

  pub has_is : IsTrue (has bit_of mask k) ↔ Has bit_of mask k
  has_is = (has_in (bit_of k) refl, λ h. ap (is_in mask) h.is_bit ∙ h.is_in)

-- Pending in a group

-- the bit is set of a place of the group, below that of what is kept
record PendingAt (g mask bit : ℕ) (hs : List ℕ) : Type 0 where
  place : ℕ
  is_there : slice_get hs place ≡ Some g
  is_in : is_set mask (bit + place) ≡ true
  below : bit + place < 15

abbrev here_or_later : ℕ → ℕ → ℕ → ℕ → List ℕ → Bool
here_or_later g mask bit h hs = ((g == h) && is_set mask bit) || may_be_pending g mask (bit + 1) hs

-- no bit is tested from that of what is kept on
pub none_tested : (g mask bit : ℕ) (hs : List ℕ) → 15 ≤ bit → may_be_pending g mask bit hs ≡ false
none_tested g mask bit [] l = refl
none_tested g mask bit (h ∷ hs) l = ap (λ t. t && here_or_later g mask bit h hs) (le-ltb bit 15 l)

pending_at : (g mask bit : ℕ) (hs : List ℕ) → may_be_pending g mask bit hs ≡ true → PendingAt g mask bit hs
pending_at g mask bit [] e = absurd (false≢true e)
pending_at g mask bit (h ∷ hs) e =
    let both = and_parts (nat_lt bit 15) (here_or_later g mask bit h hs) e in
    elim (or_cases ((g == h) && is_set mask bit) (may_be_pending g mask (bit + 1) hs) both.1) [
      | inl here ↦
          let parts = and_parts (g == h) (is_set mask bit) here in
          let same : bit ≡ bit + 0 = omega arith in
          record {
            place = 0;
            is_there = ap Some (sym (eqb-true g h parts.0));
            is_in = subst (λ n. is_set mask n ≡ true) same parts.1;
            below = let l = ltb-true bit 15 both.0 in omega (arith, l);
          }
      | inr later ↦
          let it = pending_at g mask (bit + 1) hs later in
          let same : (bit + 1) + it.place ≡ bit + suc it.place = omega arith in
          record {
            place = suc it.place;
            is_there = it.is_there;
            is_in = subst (λ n. is_set mask n ≡ true) same it.is_in;
            below = let l = it.below in omega (arith, l);
          }
    ]

at_pending : (g mask bit : ℕ) (hs : List ℕ) (place : ℕ) → slice_get hs place ≡ Some g → bit + place < 15
    → is_set mask (bit + place) ≡ true → may_be_pending g mask bit hs ≡ true
at_pending g mask bit [] place there l e = absurd (none-some g there)
at_pending g mask bit (h ∷ hs) zero there l e =
    let same : bit + 0 ≡ bit = omega arith in
    and_from (nat_lt bit 15) (here_or_later g mask bit h hs) (lt-ltb bit 15 (omega (arith, l)))
    (or_left ((g == h) && is_set mask bit) (may_be_pending g mask (bit + 1) hs)
    (and_from (g == h) (is_set mask bit) (eq-eqb g h (sym (same_Some h g there)))
    (subst (λ n. is_set mask n ≡ true) same e)))
at_pending g mask bit (h ∷ hs) (suc place) there l e =
    let same : bit + suc place ≡ (bit + 1) + place = omega arith in
    and_from (nat_lt bit 15) (here_or_later g mask bit h hs) (lt-ltb bit 15 (omega (arith, l)))
    (or_right ((g == h) && is_set mask bit) (may_be_pending g mask (bit + 1) hs)
    (at_pending g mask (bit + 1) hs place there (omega (arith, l)) (subst (λ n. is_set mask n ≡ true) same e)))

-- A bit that stands for a class

module _ (groups : List ℕ) (mask : ℕ) where
  may_be : (k : CancelClass) → may_be_cancel groups mask k ≡ true → MayBe (cancel_class groups) mask k
  may_be unset e = record { bit = 0; is_in = e; is_class = refl }
  may_be opened e = record { bit = 1; is_in = e; is_class = refl }
  may_be kept e = record { bit = 15; is_in = e; is_class = refl }
  may_be safe e = record { bit = 2; is_in = e; is_class = refl }
  may_be (pending g) e =
      let it = pending_at g mask 3 groups e in
      let below = it.below in
      let same : 3 + it.place ≡ suc (suc (suc it.place)) = omega arith in
      record {
        bit = suc (suc (suc it.place));
        is_in = subst (λ n. is_set mask n ≡ true) same it.is_in;
        is_class = behind_pending groups it.place (omega (arith, below)) ∙ ap (option_map pending) it.is_there;
      }

  -- what holds of the class of each bit that is set
  of_each : (P : CancelClass → Type 0)
      → (is_set mask 0 ≡ true → P unset)
      → (is_set mask 1 ≡ true → P opened)
      → (is_set mask 2 ≡ true → P safe)
      → ((place g : ℕ) → place < 12 → slice_get groups place ≡ Some g → is_set mask (3 + place) ≡ true → P (pending g))
      → (is_set mask 15 ≡ true → P kept)
      → (k : CancelClass) (bit : ℕ) → is_set mask bit ≡ true → cancel_class groups bit ≡ Some k → P k
  of_each P a b c d f k zero e is = subst P (same_Some unset k is) (a e)
  of_each P a b c d f k (suc zero) e is = subst P (same_Some opened k is) (b e)
  of_each P a b c d f k (suc (suc zero)) e is = subst P (same_Some safe k is) (c e)
  of_each P a b c d f k (suc (suc (suc place))) e is = behind (stands_behind groups place k is)
    where
      behind : StandsBehind groups place k → P k
      behind (is_kept same its) =
          let bit : suc (suc (suc place)) ≡ 15 = omega (arith, same) in
          subst P (sym its) (f (subst (λ n. is_set mask n ≡ true) bit e))
      behind (is_pending g l at its) =
          let bit : suc (suc (suc place)) ≡ 3 + place = omega arith in
          subst P (sym its) (d place g l at (subst (λ n. is_set mask n ≡ true) bit e))

  may_be_there : (k : CancelClass) → MayBe (cancel_class groups) mask k → may_be_cancel groups mask k ≡ true
  may_be_there k h =
      of_each (λ k. may_be_cancel groups mask k ≡ true) (λ e. e) (λ e. e) (λ e. e)
      (λ place g l there e. at_pending g mask 3 groups place there (omega (arith, l)) e) (λ e. e) k h.bit h.is_in h.is_class

  pub may_be_is : (k : CancelClass) → IsTrue (may_be_cancel groups mask k) ↔ MayBe (cancel_class groups) mask k
  may_be_is k = (may_be k, may_be_there k)

  -- what may be pending in a group may be so in one of these
  pub pending_among : (g : ℕ) → may_be_cancel groups mask (pending g) ≡ true → Contains groups g
  pending_among g e =
      let it = pending_at g mask 3 groups e in
      (it.place, slice_get_within groups it.place g it.is_there, get_or_from_slice_get groups it.place g g it.is_there)

-- Groups

module _ (mask : ℕ) where
  pub group_may_be_is : (k : GroupClass) → IsTrue (may_be_group mask k) ↔ MayBe group_class mask k
  group_may_be_is k = (
    λ e. record { bit = group_bit k; is_in = e; is_class = group_inverse.there k },
    λ h. ap (is_set mask) (group_inverse.back h.bit k h.is_class) ∙ h.is_in,
  )
