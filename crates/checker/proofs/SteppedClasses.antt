-- Bits of masks go where the classes go for which they stand.
use Rattle.std.proofs.Common.{◌≡◌, ℕ, zero, suc, ◌<◌, ◌≤◌, true, List, [], ◌∷◌, length, Option, Some, option_map, refl, sym, ap, ◌∙◌, subst, arith, inl, inr}
use Rattle.std.specs.Prelude.{slice_get, option_and_then, unwrap_or}
use Rattle.std.proofs.lemmas.Bool.{cases_lt}
use Rattle.std.proofs.lemmas.Option.{same_Some, slice_get_within, get_or_from_slice_get}
use Rattle.meaning.specs.Classes.{Promises, CancelClass, unset, opened, kept, safe, pending, change_cancel, GroupClass, unmade, in_state, awaited, change_group}
use Rattle.meaning.specs.Tracked.{idle, live}
use Rattle.meaning.specs.Uses.{Event}
use Rattle.bodies.proofs.ChangedClasses.{HasBit, StartsAmong, change_has}
use Rattle.bodies.proofs.ClassNumbers.{behind_pending, StandsBehind, is_kept, is_pending, stands_behind, pending_found}
use Rattle.bodies.specs.Bits.{cancel_bit, cancel_class, group_bit, group_class}
use Rattle.bodies.specs.BitSteps.{bit_after, cancel_step, group_step}
use Rattle.bodies.specs.Masks.{is_set, bit_of_group, GoesInto}
use Rattle.checker.proofs.SteppedMasks.{StepsInto}

-- Of any classes: each bit of the mask stands for one, and each class that has come of one of these has a bit

module _ {K : Type 0} (class_of : ℕ → Option K) (bit_of : K → Option ℕ) (change : K → K) (before after : ℕ) where
  step_is : (k : K) (bit to : ℕ) → class_of bit ≡ Some k → bit_of (change k) ≡ Some to
      → bit_after class_of bit_of change bit ≡ to
  step_is k bit to is goes =
      ap (λ o. unwrap_or (option_and_then (λ k. bit_of (change k)) o) bit) is ∙ ap (λ o. unwrap_or o bit) goes

  pub classes_go : ((k : K) (bit : ℕ) → class_of bit ≡ Some k → HasBit bit_of (change k))
      → StepsInto (bit_after class_of bit_of change) before after
      → GoesInto class_of bit_of change before after
  classes_go keeps steps k may =
      let its = keeps k may.bit may.is_class in
      record {
        bit = its.0;
        is_bit = its.1;
        is_in =
            subst (λ to. is_set after to ≡ true) (step_is k may.bit its.0 may.is_class its.1)
            (steps may.bit may.is_in);
      }

  pub bits_go : ((bit : ℕ) → is_set before bit ≡ true → (k : K) × (class_of bit ≡ Some k))
      → GoesInto class_of bit_of change before after
      → StepsInto (bit_after class_of bit_of change) before after
  bits_go stands goes bit set =
      let its = stands bit set in
      let has = goes its.0 record { bit = bit; is_in = set; is_class = its.1 } in
      subst (λ to. is_set after to ≡ true) (sym (step_is its.0 bit has.bit its.1 has.is_bit)) has.is_in

-- Cancel variables

module _ (groups : List ℕ) (fits : length groups ≤ 12) where
  abbrev HasOne : CancelClass → Type 0
  HasOne = HasBit (cancel_bit groups)

  behind_has : (k : CancelClass) (i : ℕ) → StandsBehind groups i k → HasOne k
  behind_has k i (is_kept same is) = subst HasOne (sym is) (15, refl)
  behind_has k i (is_pending g l at is) =
      subst HasOne (sym is)
      (pending_found groups g (i, slice_get_within groups i g at, get_or_from_slice_get groups i g g at) fits)

  pub class_has : (k : CancelClass) (bit : ℕ) → cancel_class groups bit ≡ Some k → HasOne k
  class_has k zero e = subst HasOne (same_Some unset k e) (0, refl)
  class_has k (suc zero) e = subst HasOne (same_Some opened k e) (1, refl)
  class_has k (suc (suc zero)) e = subst HasOne (same_Some safe k e) (2, refl)
  class_has k (suc (suc (suc i))) e = behind_has k i (stands_behind groups i k e)

  pub cancels_go : (p : Promises) (v : ℕ) (e : Event) (before after : ℕ) → StartsAmong groups e
      → StepsInto (cancel_step p v groups e) before after
      → GoesInto (cancel_class groups) (cancel_bit groups) (change_cancel p v e) before after
  cancels_go p v e before after among =
      classes_go (cancel_class groups) (cancel_bit groups) (change_cancel p v e) before after
      (λ k bit is. change_has groups fits p v e k among (class_has k bit is))

pub groups_go : (p : Promises) (v : ℕ) (e : Event) (before after : ℕ) → StepsInto (group_step p v e) before after
    → GoesInto group_class bit_of_group (change_group p v e) before after
groups_go p v e before after =
    classes_go group_class bit_of_group (change_group p v e) before after
    (λ k bit is. (group_bit (change_group p v e k), refl))

-- Each bit stands for a class

there_is : (groups : List ℕ) (k : ℕ) → k < length groups → (g : ℕ) × (slice_get groups k ≡ Some g)
there_is [] k l = absurd (omega (arith, l))
there_is (g ∷ gs) zero l = (g, refl)
there_is (g ∷ gs) (suc k) l = there_is gs k (omega (arith, l))

pub cancel_stands : (groups : List ℕ) (bit : ℕ) → length groups ≡ 12 → bit < 16
    → (k : CancelClass) × (cancel_class groups bit ≡ Some k)
cancel_stands groups zero all l = (unset, refl)
cancel_stands groups (suc zero) all l = (opened, refl)
cancel_stands groups (suc (suc zero)) all l = (safe, refl)
cancel_stands groups (suc (suc (suc k))) all l =
    elim (cases_lt k 12) [
      | inl low ↦
          let its = there_is groups k (omega (arith, low, all)) in
          (pending its.0, behind_pending groups k low ∙ ap (option_map pending) its.1)
      | inr past ↦
          let bit : suc (suc (suc k)) ≡ 15 = omega (arith, past, l) in
          (kept, ap (cancel_class groups) bit)
    ]

pub group_stands : (bit : ℕ) → bit < 4 → (k : GroupClass) × (group_class bit ≡ Some k)
group_stands zero l = (unmade, refl)
group_stands (suc zero) l = (in_state idle, refl)
group_stands (suc (suc zero)) l = (in_state live, refl)
group_stands (suc (suc (suc zero))) l = (awaited, refl)
group_stands (suc (suc (suc (suc n)))) l = absurd (omega (arith, l))
