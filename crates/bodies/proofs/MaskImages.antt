-- The bits to which a step takes those of a mask.
use Rattle.std.proofs.Common.{◌≡◌, ◌↔◌, ℕ, ◌+◌, ◌*◌, ◌%◌, ◌<◌, ◌^◌, Bool, true, false, ◌||◌, ◌&&◌, List, refl, sym, ap, ◌∙◌, subst, true≢false, arith, inl, inr}
use Rattle.std.proofs.lemmas.Bool.{cases_eq, or_cases, or_left, or_right, eqb-true, eq-eqb, lt-ltb}
use Rattle.std.proofs.lemmas.Bool.Decides.{eqb_tells}
use Rattle.std.proofs.lemmas.Nat.{pow_pos, pow_below, one_shl, or_lt}
use Rattle.std.proofs.lemmas.Nat.Bits.{bit_at-zero, bit_at_set_same, bit_at_set_other}
use Rattle.std.specs.Int.{w16}
use Rattle.std.specs.Prelude.{◌==◌, nat_eq, nat_lt, bit_or}
use Rattle.bodies.specs.Masks.{is_set}
use Rattle.bodies.specs.States.{has_bit, IsImage, Sets}
use Rattle.bodies.specs.StateWords.{Changes}

or_false : (b : Bool) → (b || false) ≡ b
or_false true = refl
or_false false = refl

or_true : (b : Bool) → (b || true) ≡ true
or_true true = refl
or_true false = refl

abbrev with_it : ℕ → ℕ → ℕ
with_it mask bit = bit_or mask (1 * 2 ^ bit % 2 ^ 16)

pub bit_set : (mask bit other : ℕ)
    → bit < 16
    → is_set (with_it mask bit) other ≡ (is_set mask other || nat_eq other bit)
bit_set mask bit other l =
    elim (eqb_tells other bit) [
      | inl same ↦
          subst (λ o. is_set (with_it mask bit) o ≡ true) (sym same.1)
          (ap (λ b. b == 1) (bit_at_set_same w16 mask bit l))
          ∙ sym (or_true (is_set mask other))
          ∙ ap (λ b. is_set mask other || b) (sym same.0)
      | inr differs ↦
          ap (λ b. b == 1) (bit_at_set_other w16 mask bit l other differs.1)
          ∙ sym (or_false (is_set mask other))
          ∙ ap (λ b. is_set mask other || b) (sym differs.0)
    ]

pub set_below : (mask bit count : ℕ) → bit < 16 → bit < count → mask < 2 ^ count → with_it mask bit < 2 ^ count
set_below mask bit count small l below =
    or_lt count mask (1 * 2 ^ bit % 2 ^ 16) below
    (subst (λ x. x < 2 ^ count) (sym (one_shl bit 16 small)) (pow_below bit count l))

-- The bits so far

module _ (count : ℕ) (step : ℕ → ℕ) (mask : ℕ) where
  abbrev pub Comes : ℕ → ℕ → Type 0
  Comes left to = (from : ℕ) × (from < left) × (is_set mask from ≡ true) × (step from ≡ to)

  pub record ImageSoFar (image left : ℕ) : Type 0 where
    pub below : image < 2 ^ count
    pub tells : (to : ℕ) → (is_set image to ≡ true) ↔ Comes left to

  pub none_yet : ImageSoFar 0 0
  none_yet = record {
    below = pow_pos count;
    tells = λ to. (
      λ e. absurd (true≢false (sym e ∙ ap (λ b. b == 1) (bit_at-zero to))),
      λ h. let l = h.1 in absurd (omega (arith, l)),
    );
  }

  module _ (image left : ℕ) (h : ImageSoFar image left) where
    more : (to : ℕ) → Comes left to → Comes (left + 1) to
    more to w = let l = w.1 in (w.0, omega (arith, l), w.2, w.3)

    pub passed : is_set mask left ≡ false → ImageSoFar image (left + 1)
    passed e = record {
      below = h.below;
      tells = λ to. (
        λ s. more to ((h.tells to).0 s),
        λ w. (h.tells to).1 (earlier to w),
      );
    }
      where
        earlier : (to : ℕ) → Comes (left + 1) to → Comes left to
        earlier to w =
            elim (cases_eq w.0 left) [
              | inl same ↦ absurd (true≢false (sym w.2 ∙ ap (is_set mask) same ∙ e))
              | inr other ↦ let l = w.1 in (w.0, omega (arith, l, other), w.2, w.3)
            ]

    pub taken : (next place : ℕ)
        → is_set mask left ≡ true
        → place ≡ step left
        → (image < 2 ^ count → next < 2 ^ count)
        → ((other : ℕ) → is_set next other ≡ (is_set image other || nat_eq other place))
        → ImageSoFar next (left + 1)
    taken next place e at below bits = record {
      below = below h.below;
      tells = λ to. (
        λ s. elim (or_cases (is_set image to) (nat_eq to place) (sym (bits to) ∙ s)) [
          | inl was ↦ more to ((h.tells to).0 was)
          | inr here ↦ (left, omega arith, e, sym at ∙ sym (eqb-true to place here))
        ],
        λ w. bits to ∙ now to w,
      );
    }
      where
        now : (to : ℕ) → Comes (left + 1) to → (is_set image to || nat_eq to place) ≡ true
        now to w =
            elim (cases_eq w.0 left) [
              | inl same ↦
                  or_right (is_set image to) (nat_eq to place)
                  (eq-eqb to place (sym w.3 ∙ ap step same ∙ sym at))
              | inr other ↦
                  let l = w.1 in
                  or_left (is_set image to) (nat_eq to place)
                  ((h.tells to).1 (w.0, omega (arith, l, other), w.2, w.3))
            ]

-- In the words of a state

pub changes : (first count : ℕ) (step : ℕ → ℕ) (before after : List ℕ) (from to : ℕ)
    → ((bit : ℕ) → is_set from bit ≡ (nat_lt bit count && has_bit before (first + bit)))
    → IsImage count step (is_set from) (is_set to)
    → Sets first count to before after
    → Changes first count step before after
changes first count step before after from to were image sets = record {
  is_image = λ bit l. (
    λ e. let w = (image bit l).0 (sym (sets.here bit l) ∙ e) in
        (w.0, w.1, sym (is w.0 w.1) ∙ w.2, w.3),
    λ w. sets.here bit l ∙ (image bit l).1 (w.0, w.1, is w.0 w.1 ∙ w.2, w.3),
  );
  others = sets.others;
}
  where
    is : (bit : ℕ) → bit < count → is_set from bit ≡ has_bit before (first + bit)
    is bit l = were bit ∙ ap (λ t. t && has_bit before (first + bit)) (lt-ltb bit count l)
