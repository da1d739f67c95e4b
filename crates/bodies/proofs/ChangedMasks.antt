-- What changes of some masks one after the other make of all words.
use Rattle.std.proofs.Common.{◌≡◌, ℕ, ◌+◌, ◌*◌, ◌<◌, ◌≤◌, Bool, List, length, Option, Some, None, refl, sym, ap, ◌∙◌, subst, arith, inl, inr}
use Rattle.std.proofs.lemmas.Bool.{cases_eq}
use Rattle.std.proofs.lemmas.Nat.{mul-add-lt}
use Rattle.std.proofs.lemmas.Option.{same_Some, slice_get_within}
use Rattle.std.specs.Prelude.{slice_get, option_and_then, unwrap_or}
use Rattle.meaning.specs.Classes.{Promises, change_cancel, change_group}
use Rattle.meaning.specs.Uses.{Event}
use Rattle.bodies.proofs.ClassNumbers.{cancel_within, group_within}
use Rattle.bodies.specs.Bits.{cancel_bit, cancel_class, group_bit, group_class}
use Rattle.bodies.specs.BitSteps.{bit_after, cancel_step, group_step}
use Rattle.bodies.specs.Masks.{bit_of_group}
use Rattle.bodies.specs.States.{has_bit, mask_from, cancel_first, group_first, IsImage, Fit, Applies}
use Rattle.bodies.specs.StateWords.{StaysBelow, Changes, ChangesFirst}
use Rattle.bodies.specs.declared.state.StateVariables.{StateVariables}

-- masks with the same bits have the same images
pub same_image : (count : ℕ) (step : ℕ → ℕ) (before old after now : ℕ → Bool)
    → ((bit : ℕ) → bit < count → before bit ≡ old bit)
    → ((bit : ℕ) → bit < count → after bit ≡ now bit)
    → IsImage count step before after
    → IsImage count step old now
same_image count step before old after now was is image to l = (
  λ e. let w = (image to l).0 (is to l ∙ e) in (w.0, w.1, sym (was w.0 w.1) ∙ w.2, w.3),
  λ w. sym (is to l) ∙ (image to l).1 (w.0, w.1, was w.0 w.1 ∙ w.2, w.3),
)

module _ (begin width : ℕ) (step : ℕ → ℕ → ℕ) (numbers : List ℕ) (init : List ℕ) where
  pub none_changed : ChangesFirst begin width step numbers 0 init init
  none_changed = record { each = λ k number l e. absurd (omega (arith, l)); others = λ bit h. refl }

  module _ (count number : ℕ) (mid after : List ℕ) (h : ChangesFirst begin width step numbers count init mid)
      (is_next : slice_get numbers count ≡ Some number)
      (changes : Changes (begin + count * width) width (step number) mid after) where
    next_row : (count + 1) * width ≡ count * width + width
    next_row = omega arith

    earlier : (k bit : ℕ) → k < count → bit < width
        → mask_from after (begin + k * width) bit ≡ mask_from mid (begin + k * width) bit
    earlier k bit l small =
        let below = mul-add-lt k width bit count l small in
        changes.others (begin + k * width + bit) (λ from. absurd (omega (arith, from, below)))

    fresh : (bit : ℕ) → mask_from mid (begin + count * width) bit ≡ mask_from init (begin + count * width) bit
    fresh bit = h.others (begin + count * width + bit) (λ _. omega arith)

    pub next_changed : ChangesFirst begin width step numbers (count + 1) init after
    next_changed = record {
      each = λ k n l e. elim (cases_eq k count) [
        | inl same ↦
            let its : number ≡ n = same_Some number n (sym is_next ∙ ap (slice_get numbers) (sym same) ∙ e) in
            subst (λ j. IsImage width (step n) (mask_from init (begin + j * width)) (mask_from after (begin + j * width))) (sym same)
            (subst (λ m. IsImage width (step m) (mask_from init (begin + count * width)) (mask_from after (begin + count * width))) its
            (same_image width (step number) (mask_from mid (begin + count * width)) (mask_from init (begin + count * width))
            (mask_from after (begin + count * width)) (mask_from after (begin + count * width))
            (λ bit _. fresh bit) (λ _ _. refl) changes.is_image))
        | inr other ↦
            let sooner : k < count = omega (arith, l, other) in
            same_image width (step n) (mask_from init (begin + k * width)) (mask_from init (begin + k * width))
            (mask_from mid (begin + k * width)) (mask_from after (begin + k * width))
            (λ _ _. refl) (λ bit small. sym (earlier k bit sooner small)) (h.each k n sooner e)
      ];
      others = λ bit apart.
          changes.others bit (λ from. let past = apart (omega (arith, from)) in let row = next_row in omega (arith, past, row))
          ∙ h.others bit (λ from. let past = apart from in let row = next_row in omega (arith, past, row));
    }

-- Steps stay among the bits of a mask

module _ {K : Type 0} (class_of : ℕ → Option K) (bit_of : K → Option ℕ) (change : K → K) (width : ℕ)
    (within : (k : K) (j : ℕ) → bit_of k ≡ Some j → j < width) (bit : ℕ) (is : bit < width) where
  pub step_stays : bit_after class_of bit_of change bit < width
  step_stays = by_class (class_of bit)
    where
      by_bit : (o : Option ℕ) → ((j : ℕ) → o ≡ Some j → j < width) → unwrap_or o bit < width
      by_bit None h = is
      by_bit (Some j) h = h j refl

      by_class : (o : Option K) → unwrap_or (option_and_then (λ k. bit_of (change k)) o) bit < width
      by_class None = is
      by_class (Some k) = by_bit (bit_of (change k)) (within (change k))

pub cancel_stays : (p : Promises) (v : ℕ) (groups : List ℕ) (e : Event) → StaysBelow 16 (cancel_step p v groups e)
cancel_stays p v groups e bit l =
    step_stays (cancel_class groups) (cancel_bit groups) (change_cancel p v e) 16
    (λ k j is. cancel_within groups k j is) bit l

pub group_stays : (p : Promises) (v : ℕ) (e : Event) → StaysBelow 4 (group_step p v e)
group_stays p v e bit l =
    step_stays group_class bit_of_group (change_group p v e) 4
    (λ k j is. subst (λ i. i < 4) (same_Some (group_bit k) j is) (group_within k)) bit l

-- All variables

module _ (p : Promises) (e : Event) (vs : StateVariables) (fits : Fit vs) (before mid after : List ℕ)
    (cancels : ChangesFirst 0 16 (λ number. cancel_step p number vs.pending.now e) vs.cancels.now
    (length vs.cancels.now) before mid)
    (groups : ChangesFirst 768 4 (λ number. group_step p number e) vs.groups.now (length vs.groups.now) mid after)
  where
    below_groups : (bit : ℕ) → bit < 768 → has_bit after bit ≡ has_bit mid bit
    below_groups bit l = groups.others bit (λ from. absurd (omega (arith, from, l)))

    past_cancels : (bit : ℕ) → cancel_first (length vs.cancels.now) ≤ bit → has_bit mid bit ≡ has_bit before bit
    past_cancels bit past = cancels.others bit (λ _. omega (arith, past))

    pub applies : Applies p e vs before after
    applies = record {
      cancels = λ k number is.
          let l = slice_get_within vs.cancels.now k number is in
          let most = fits.cancels in
          same_image 16 (cancel_step p number vs.pending.now e) (mask_from before (cancel_first k))
          (mask_from before (cancel_first k)) (mask_from mid (cancel_first k)) (mask_from after (cancel_first k))
          (λ _ _. refl)
          (λ bit small. sym (below_groups (cancel_first k + bit) (omega (arith, l, most, small))))
          (cancels.each k number l is);
      groups = λ k number is.
          let l = slice_get_within vs.groups.now k number is in
          let most = fits.cancels in
          same_image 4 (group_step p number e) (mask_from mid (group_first k)) (mask_from before (group_first k))
          (mask_from after (group_first k)) (mask_from after (group_first k))
          (λ bit small. past_cancels (group_first k + bit) (omega (arith, most)))
          (λ _ _. refl)
          (groups.each k number l is);
      past_cancels = λ bit past l. below_groups bit l ∙ past_cancels bit past;
      past_groups = λ bit past.
          let most = fits.cancels in
          groups.others bit (λ _. past) ∙ past_cancels bit (omega (arith, past, most));
    }
