-- A text is cut at the first byte that a test passes.
use Rattle.std.proofs.Common.{◌≡◌, ℕ, ◌+◌, ◌<◌, ◌≤◌, Bool, true, false, not, cond, List, [], ◌∷◌, length, get_or, drop, refl, sym, ap, ◌∙◌, arith}
use Rattle.std.proofs.lemmas.List.{drop-drop, drop_all, drop_more}
use Rattle.std.specs.List.{after_first, position_or_len}

-- up to here no byte passes
abbrev pub IsSoFar : (ℕ → Bool) → List ℕ → ℕ → Type 0
IsSoFar stops bs i = (position_or_len stops bs ≡ i + position_or_len stops (drop i bs)) × (i ≤ length bs)

module _ (stops : ℕ → Bool) (bs : List ℕ) (i : ℕ) where
  here : i < length bs → (test : Bool) → stops (get_or bs i 0) ≡ test
      → position_or_len stops (drop i bs) ≡ cond (not test) (1 + position_or_len stops (drop (i + 1) bs)) 0
  here inside test is =
      ap (position_or_len stops) (drop_more bs i 0 inside)
      ∙ ap (λ t. cond (not t) (1 + position_or_len stops (drop (i + 1) bs)) 0) is

  one_more : (n : ℕ) → i + (1 + n) ≡ (i + 1) + n
  one_more n = omega arith

  none_more : i + 0 ≡ i
  none_more = omega arith

  pub goes_on : i < length bs → stops (get_or bs i 0) ≡ false → IsSoFar stops bs i → IsSoFar stops bs (i + 1)
  goes_on inside fails so =
      (so.0 ∙ (ap (λ n. i + n) (here inside false fails) ∙ one_more (position_or_len stops (drop (i + 1) bs))), omega (arith, inside))

  pub stops_at : i < length bs → stops (get_or bs i 0) ≡ true → IsSoFar stops bs i → i ≡ position_or_len stops bs
  stops_at inside passes so = sym (so.0 ∙ (ap (λ n. i + n) (here inside true passes) ∙ none_more))

  pub ends_at : length bs ≤ i → IsSoFar stops bs i → length bs ≡ position_or_len stops bs
  ends_at over so =
      let place : position_or_len stops bs ≡ i
      = so.0 ∙ (ap (λ l. i + position_or_len stops l) (drop_all i bs over) ∙ none_more) in
      omega (arith, place, over, so.1)

-- what stands behind the cut
pub after_is : (stops : ℕ → Bool) (bs rest : List ℕ) (at : ℕ) → at ≡ position_or_len stops bs → rest ≡ drop at bs
    → drop 1 rest ≡ after_first stops bs
after_is stops bs rest at is left =
    ap (drop 1) left ∙ (drop-drop 1 at bs ∙ ap (λ n. drop (n + 1) bs) is)

pub dropped_none : (rest : List ℕ) → length rest ≡ 0 → rest ≡ drop 1 rest
dropped_none [] none = refl
dropped_none (b ∷ bs) none = absurd (omega (arith, none))
