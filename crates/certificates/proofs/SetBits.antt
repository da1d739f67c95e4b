-- What a bit that is set changes in a mask.
use Rattle.std.proofs.Common.{◌≡◌, ◌≢◌, ℕ, ◌+◌, ◌*◌, ◌%◌, ◌<◌, ◌≤◌, ◌^◌, Bool, true, false, refl, sym, ap, ◌∙◌, subst, arith, inl, inr}
use Rattle.std.proofs.Math.Nat.{mod-le}
use Rattle.std.proofs.Math.Pow.{pow-lt}
use Rattle.std.proofs.lemmas.Bool.{lt-ltb, le-ltb, ltb-true, ltb-false}
use Rattle.std.proofs.lemmas.Bool.Decides.{eqb_tells}
use Rattle.std.proofs.lemmas.Nat.{or_lt}
use Rattle.std.proofs.lemmas.Nat.Bits.{bit_at-zero, bit_at_set_same, bit_at_set_other}
use Rattle.std.specs.Prelude.{◌==◌, ◌&&◌, ◌||◌, nat_eq, nat_lt}
use Rattle.std.specs.Int.{w16}
use Rattle.std.specs.Int.Bits.{bit_or}
use Rattle.bodies.specs.Masks.{is_set}
use Rattle.certificates.specs.Rows.{HasBits}

pub no_bits : (test : ℕ → Bool) → HasBits 0 test 0
no_bits test = record {
  is_below = omega arith;
  each = λ bit.
      ap (λ b. b == 1) (bit_at-zero bit) ∙ ap (λ b. b && test bit) (sym (le-ltb bit 0 (omega arith)));
}

or_false : (b : Bool) → (b || false) ≡ b
or_false true = refl
or_false false = refl

or_true : (b : Bool) → (b || true) ≡ true
or_true true = refl
or_true false = refl

abbrev with_it : ℕ → ℕ → ℕ
with_it mask bit = bit_or mask (1 * 2 ^ bit % 2 ^ 16)

pub bit_set : (mask bit other : ℕ)
    → bit < 16
    → is_set (with_it mask bit) other ≡ (is_set mask other || (nat_eq other bit && true))
bit_set mask bit other l =
    elim (eqb_tells other bit) [
      | inl same ↦
          subst (λ o. is_set (with_it mask bit) o ≡ true) (sym same.1)
          (ap (λ b. b == 1) (bit_at_set_same w16 mask bit l))
          ∙ sym (or_true (is_set mask other))
          ∙ ap (λ b. is_set mask other || (b && true)) (sym same.0)
      | inr differs ↦
          ap (λ b. b == 1) (bit_at_set_other w16 mask bit l other differs.1)
          ∙ sym (or_false (is_set mask other))
          ∙ ap (λ b. is_set mask other || (b && true)) (sym differs.0)
    ]

pub set_below : (mask bit : ℕ) → mask < 2 ^ bit → with_it mask bit < 2 ^ (bit + 1)
set_below mask bit l =
    let more : 2 ^ bit < 2 ^ (bit + 1) = pow-lt (omega arith) in
    let least : 1 * 2 ^ bit % 2 ^ 16 ≤ 1 * 2 ^ bit = mod-le (1 * 2 ^ bit) (2 ^ 16) in
    or_lt (bit + 1) mask (1 * 2 ^ bit % 2 ^ 16) (omega (arith, l, more)) (omega (arith, least, more))

and_false : (b : Bool) → (b && false) ≡ false
and_false true = refl
and_false false = refl

pub bit_kept : (mask bit other : ℕ) → is_set mask other ≡ (is_set mask other || (nat_eq other bit && false))
bit_kept mask bit other =
    sym (or_false (is_set mask other)) ∙ ap (λ b. is_set mask other || b) (sym (and_false (nat_eq other bit)))

pub kept_below : (mask bit : ℕ) → mask < 2 ^ bit → mask < 2 ^ (bit + 1)
kept_below mask bit l = let more : 2 ^ bit < 2 ^ (bit + 1) = pow-lt (omega arith) in omega (arith, l, more)

lt_next : (other bit : ℕ) → other ≢ bit → nat_lt other bit ≡ nat_lt other (bit + 1)
lt_next other bit differs = by_test (nat_lt other bit) refl
  where
    by_test : (b : Bool) → nat_lt other bit ≡ b → nat_lt other bit ≡ nat_lt other (bit + 1)
    by_test true e =
        let l = ltb-true other bit e in e ∙ sym (lt-ltb other (bit + 1) (omega (arith, l)))
    by_test false e =
        let l = ltb-false other bit e in e ∙ sym (le-ltb other (bit + 1) (omega (arith, l, differs)))

pub next_bit : (bit mask next : ℕ) (test : ℕ → Bool)
    → HasBits bit test mask
    → (mask < 2 ^ bit → next < 2 ^ (bit + 1))
    → ((other : ℕ) → is_set next other ≡ (is_set mask other || (nat_eq other bit && test bit)))
    → HasBits (bit + 1) test next
next_bit bit mask next test has below each = record {
  is_below = below has.is_below;
  each = λ other.
      each other
      ∙ elim (eqb_tells other bit) [
        | inl same ↦
            ap (λ b. is_set mask other || (b && test bit)) same.0
            ∙ ap (λ b. b || test bit)
            (has.each other ∙ ap (λ b. b && test other) (le-ltb other bit (let e = same.1 in omega (arith, e))))
            ∙ ap test (sym same.1)
            ∙ ap (λ b. b && test other) (sym (lt-ltb other (bit + 1) (let e = same.1 in omega (arith, e))))
        | inr differs ↦
            ap (λ b. is_set mask other || (b && test bit)) differs.0
            ∙ or_false (is_set mask other)
            ∙ has.each other
            ∙ ap (λ b. b && test other) (lt_next other bit differs.1)
      ];
}
