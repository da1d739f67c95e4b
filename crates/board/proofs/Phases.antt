-- How far packages are, where one of them goes on.
use Rattle.std.proofs.Common.{◌≡◌, ℕ, Bool, true, false, List, Option, Some, None, ◌⊎◌, inl, inr, refl, sym, ap, ◌∙◌, subst, slice_get, slice_set}
use Rattle.board.specs.declared.entries.Phase.{Phase}
use Rattle.board.specs.declared.entries.Phase.TheVariants.{Untaken, Taken, Delivered, GivenBack}
use Rattle.board.specs.Legal.{IsIn}
use Rattle.board.specs.Ready.{was_delivered, is_untaken}
use Rattle.board.proofs.Lists.{get_set, get_set_other}

delivered_by : (x : Option Phase) → was_delivered x ≡ true → (w : ℕ) × (x ≡ Some (Delivered w))
delivered_by None e = cc
delivered_by (Some Untaken) e = cc
delivered_by (Some (Taken w)) e = cc
delivered_by (Some (Delivered w)) e = (w, refl)
delivered_by (Some (GivenBack w)) e = cc

untaken_by : (x : Option Phase) → is_untaken x ≡ true → x ≡ Some Untaken
untaken_by None e = cc
untaken_by (Some Untaken) e = refl
untaken_by (Some (Taken w)) e = cc
untaken_by (Some (Delivered w)) e = cc
untaken_by (Some (GivenBack w)) e = cc

pub true_false : {b : Bool} → b ≡ true → b ≡ false → ⊥
true_false e f = cc

pub is_in : (phases : List Phase) (p : ℕ) → was_delivered (slice_get phases p) ≡ true → IsIn phases p
is_in phases p e = delivered_by (slice_get phases p) e

pub in_is : (phases : List Phase) (p : ℕ) → IsIn phases p → was_delivered (slice_get phases p) ≡ true
in_is phases p h = ap was_delivered h.1

pub not_in : (phases : List Phase) (p : ℕ) → was_delivered (slice_get phases p) ≡ false → IsIn phases p → ⊥
not_in phases p missing h = let there = in_is phases p h in cc

pub untaken_is : (phases : List Phase) (p : ℕ) → is_untaken (slice_get phases p) ≡ true → slice_get phases p ≡ Some Untaken
untaken_is phases p e = untaken_by (slice_get phases p) e

module _ (phases : List Phase) (p : ℕ) (new : Phase) where
  -- what was delivered stays so, where another one goes on
  pub stays_in : (old : Phase) → slice_get phases p ≡ Some old → was_delivered (Some old) ≡ false
      → (q : ℕ) → IsIn phases q → IsIn (slice_set phases p new) q
  stays_in old at open_one q h =
      let apart : q ≡ p → ⊥ = λ e. (
      let P : ℕ → Type 0 = λ k. slice_get phases k ≡ Some (Delivered h.0) in
      let there : slice_get phases p ≡ Some (Delivered h.0) = subst P e h.1 in
      let done : was_delivered (Some old) ≡ true = ap was_delivered (sym at ∙ there) in
      true_false done open_one) in
      (h.0, get_set_other phases p q new apart ∙ h.1)

  -- what is delivered was so, unless it is the one that goes on
  pub was_in : (q : ℕ) → IsIn (slice_set phases p new) q → (q ≡ p) ⊎ IsIn phases q
  was_in q h =
      elim (get_set phases p q new (Delivered h.0) h.1) [
        | inl k ↦ inl k.0
        | inr k ↦ inr (h.0, k.1)
      ]

  pub was_in_before : was_delivered (Some new) ≡ false → (q : ℕ) → IsIn (slice_set phases p new) q → IsIn phases q
  was_in_before other q h =
      elim (get_set phases p q new (Delivered h.0) h.1) [
        | inl k ↦ (
            let done : was_delivered (Some new) ≡ true = ap (λ (x : Phase). was_delivered (Some x)) (sym k.1) in
            absurd (true_false done other))
        | inr k ↦ (h.0, k.1)
      ]

  -- what nobody took was so, and is not the one that goes on
  pub was_untaken : is_untaken (Some new) ≡ false → (q : ℕ) → slice_get (slice_set phases p new) q ≡ Some Untaken
      → (q ≡ p → ⊥) × (slice_get phases q ≡ Some Untaken)
  was_untaken other q e =
      elim (get_set phases p q new Untaken e) [
        | inl k ↦ (
            let left : is_untaken (Some new) ≡ true = ap (λ (x : Phase). is_untaken (Some x)) (sym k.1) in
            absurd (true_false left other))
        | inr k ↦ k
      ]
