-- A state that an event changed is within another one exactly if, of each variable, what the event makes of each bit of
-- the one mask is in the other.
use Rattle.std.proofs.Common.{◌≡◌, ◌↔◌, ℕ, zero, suc, ◌+◌, ◌/◌, ◌%◌, ◌-◌, ◌<◌, ◌≤◌, ◌^◌, Bool, true, false, not, ◌&&◌, ◌||◌, IsTrue, List, length, Some, refl, sym, ap, ◌∙◌, subst, true≢false, arith, inl, inr}
use Rattle.std.specs.Prelude.{◌==◌, slice_get}
use Rattle.std.proofs.lemmas.Bool.{and_parts, and_from, cases_eq, cases_lt, ltb-true}
use Rattle.std.proofs.lemmas.Nat.{mod_below}
use Rattle.std.proofs.lemmas.Nat.Bits.{bit_at_above}
use Rattle.std.proofs.lemmas.Option.{slice_get_within}
use Rattle.tree.specs.declared.edition.Edition.TheVariants.{Second}
use Rattle.meaning.specs.BodyEvents.{Variable}
use Rattle.meaning.specs.Classes.{Promises, change_cancel, change_group}
use Rattle.meaning.specs.FunctionFacts.{VariableKind, cancel, group}
use Rattle.meaning.specs.Uses.{Event}
use Rattle.bodies.proofs.ChangedMasks.{cancel_stays, group_stays}
use Rattle.bodies.specs.Bits.{cancel_bit, cancel_class, group_class}
use Rattle.bodies.specs.BitSteps.{bit_after}
use Rattle.bodies.specs.Masks.{is_set, bit_of_group}
use Rattle.bodies.specs.MaskTests.{has_known_bits}
use Rattle.bodies.specs.States.{has_bit, mask_from, has_place, first_bit, mask_bits, cancel_first, group_first, IsImage, Fit, Applies}
use Rattle.bodies.specs.StateWords.{StaysBelow}
use Rattle.bodies.specs.declared.state.StateVariables.{StateVariables}
use Rattle.checker.specs.CertificateTests.{all_from, mask_in, loads, all_step_into}
use Rattle.checker.specs.Loaded.{numbers_of, place_of, IsApart, AreLoaded, step_of, all_below, steps_into}
use Rattle.checker.proofs.LoadedRows.{at_place, place_below, IsAt, from_place, all_load}
use Rattle.checker.proofs.TestedLists.{at_each, each_at}

-- Bits of one mask

-- what the step makes of each bit of the first mask is in the second
abbrev pub StepsInto : (ℕ → ℕ) → ℕ → ℕ → Type 0
StepsInto step before after = (bit : ℕ) → is_set before bit ≡ true → is_set after (step bit) ≡ true

pub each_below : (test : ℕ → Bool) (n : ℕ) → all_below test n ≡ true → (k : ℕ) → k < n → test k ≡ true
each_below test zero e k l = absurd (omega (arith, l))
each_below test (suc n) e k l =
    let parts = and_parts (test n) (all_below test n) e in
    elim (cases_eq k n) [
      | inl same ↦ subst (λ j. test j ≡ true) (sym same) parts.0
      | inr other ↦ each_below test n parts.1 k (omega (arith, l, other))
    ]

pub below_each : (test : ℕ → Bool) (n : ℕ) → ((k : ℕ) → k < n → test k ≡ true) → all_below test n ≡ true
below_each test zero each = refl
below_each test (suc n) each =
    and_from (test n) (all_below test n) (each n (omega arith)) (below_each test n (λ k l. each k (omega (arith, l))))

implied : (a b : Bool) → (a ≡ true → b ≡ true) → (not a || b) ≡ true
implied true b h = h refl
implied false b h = refl

implies : (a b : Bool) → (not a || b) ≡ true → a ≡ true → b ≡ true
implies true b e is = e
implies false b e is = absurd (true≢false (sym is))

-- no bit is set that stands for no class
none_past : (mask count bit : ℕ) → mask < 2 ^ count → is_set mask bit ≡ true → bit < count
none_past mask count bit fits set =
    elim (cases_lt bit count) [
      | inl l ↦ l
      | inr past ↦ absurd (true≢false (sym set ∙ ap (λ x. x == 1) (bit_at_above mask count bit fits past)))
    ]

pub known_cancel : (mask bit : ℕ) → has_known_bits Second cancel mask ≡ true → is_set mask bit ≡ true → bit < 16
known_cancel mask bit known set = none_past mask 16 bit (ltb-true mask (2 ^ 16) known) set

pub known_group : (mask bit : ℕ) → has_known_bits Second group mask ≡ true → is_set mask bit ≡ true → bit < 4
known_group mask bit known set = none_past mask 4 bit (ltb-true mask (2 ^ 4) known) set

known_small : (kind : VariableKind) (mask bit : ℕ) → has_known_bits Second kind mask ≡ true → is_set mask bit ≡ true
    → bit < mask_bits kind
known_small cancel mask bit known set = known_cancel mask bit known set
known_small group mask bit known set = known_group mask bit known set

small_mask : (kind : VariableKind) (bit : ℕ) → bit < mask_bits kind → bit < 16
small_mask cancel bit l = l
small_mask group bit l = omega (arith, l)

module _ (step : ℕ → ℕ) (kind : VariableKind) (before after : ℕ) (known : has_known_bits Second kind before ≡ true) where
  abbrev steps_test : ℕ → Bool
  steps_test bit = not (is_set before bit) || is_set after (step bit)

  pub steps_told : steps_into step before after ≡ true → StepsInto step before after
  steps_told e bit set =
      implies (is_set before bit) (is_set after (step bit))
      (each_below steps_test 16 e bit (small_mask kind bit (known_small kind before bit known set))) set

  pub steps_tested : StepsInto step before after → steps_into step before after ≡ true
  steps_tested h = below_each steps_test 16 (λ bit l. implied (is_set before bit) (is_set after (step bit)) (h bit))

-- All variables

module _ (p : Promises) (e done : Event) (to_cancel : (v : ℕ) → change_cancel p v done ≡ change_cancel p v e)
    (to_group : (v : ℕ) → change_group p v done ≡ change_group p v e) (vs : List Variable) (kept : StateVariables) (fits : Fit kept)
    (cancels : kept.cancels.now ≡ numbers_of cancel vs) (groups : kept.groups.now ≡ numbers_of group vs)
    (before after : List ℕ) (loaded image others : List ℕ)
    (was : AreLoaded vs before (length vs) loaded) (is : AreLoaded vs after (length vs) others)
    (applies : Applies p done kept loaded image) where
  abbrev step : Variable → ℕ → ℕ
  step v = step_of p kept.pending.now e v.number v.kind

  abbrev first : Variable → ℕ → ℕ
  first v i = first_bit v.kind (place_of v.kind vs i)

  abbrev IsWithin : Type 0
  IsWithin = (bit : ℕ) → has_bit image bit ≡ true → has_bit others bit ≡ true

  abbrev EachSteps : Type 0
  EachSteps = (i : ℕ) (v : Variable) → slice_get vs i ≡ Some v → StepsInto (step v) (mask_in before i) (mask_in after i)

  there : (i : ℕ) (v : Variable) → slice_get vs i ≡ Some v → i < length vs
  there i v at = slice_get_within vs i v at

  image_as : (i : ℕ) (v : Variable) (kind : VariableKind) → slice_get vs i ≡ Some v → v.kind ≡ kind
      → IsImage (mask_bits kind) (step_of p kept.pending.now e v.number kind)
      (mask_from loaded (first_bit kind (place_of kind vs i))) (mask_from image (first_bit kind (place_of kind vs i)))
  image_as i v cancel at same =
      subst (λ change. IsImage 16 (bit_after (cancel_class kept.pending.now) (cancel_bit kept.pending.now) change)
      (mask_from loaded (cancel_first (place_of cancel vs i))) (mask_from image (cancel_first (place_of cancel vs i))))
      (to_cancel v.number)
      (applies.cancels (place_of cancel vs i) v.number
      (ap (λ ns. slice_get ns (place_of cancel vs i)) cancels ∙ at_place cancel vs i v at same))
  image_as i v group at same =
      subst (λ change. IsImage 4 (bit_after group_class bit_of_group change)
      (mask_from loaded (group_first (place_of group vs i))) (mask_from image (group_first (place_of group vs i))))
      (to_group v.number)
      (applies.groups (place_of group vs i) v.number
      (ap (λ ns. slice_get ns (place_of group vs i)) groups ∙ at_place group vs i v at same))

  image_of : (i : ℕ) (v : Variable) → slice_get vs i ≡ Some v
      → IsImage (mask_bits v.kind) (step v) (mask_from loaded (first v i)) (mask_from image (first v i))
  image_of i v at = image_as i v v.kind at refl

  stays_below : (v : Variable) (kind : VariableKind)
      → StaysBelow (mask_bits kind) (step_of p kept.pending.now e v.number kind)
  stays_below v cancel = cancel_stays p v.number kept.pending.now e
  stays_below v group = group_stays p v.number e

  known_before : (i : ℕ) (v : Variable) → slice_get vs i ≡ Some v → has_known_bits Second v.kind (mask_in before i) ≡ true
  known_before i v at =
      (and_parts (has_place v.kind (place_of v.kind vs i)) (has_known_bits Second v.kind (mask_in before i))
      (was.each i v (there i v at) at).is_taken).1

  each_steps : IsWithin → EachSteps
  each_steps within i v at bit set =
      let small = known_small v.kind (mask_in before i) bit (known_before i v at) set in
      let stays = stays_below v v.kind bit small in
      let loaded_there = (was.each i v (there i v at) at).bits bit small ∙ set in
      let in_image = (image_of i v at (step v bit) stays).1 (bit, small, loaded_there, refl) in
      sym ((is.each i v (there i v at) at).bits (step v bit) stays) ∙ within (first v i + step v bit) in_image

  -- Where each bit of the image stands

  record StandsIn (bit : ℕ) : Type 0 where
    place : ℕ
    variable : Variable
    to : ℕ
    is_there : slice_get vs place ≡ Some variable
    is_small : to < mask_bits variable.kind
    is_bit : bit ≡ first variable place + to

  stands_as : (kind : VariableKind) (k to bit : ℕ) → IsAt kind vs k → to < mask_bits kind → bit ≡ first_bit kind k + to
      → StandsIn bit
  stands_as kind k to bit at small same = record {
    place = at.place;
    variable = at.variable;
    to = to;
    is_there = at.is_there;
    is_small = subst (λ x. to < mask_bits x) (sym at.is_kind) small;
    is_bit =
        same ∙ ap (λ n. first_bit kind n + to) (sym at.is_place)
        ∙ ap (λ x. first_bit x (place_of x vs at.place) + to) (sym at.is_kind);
  }

  few_cancels : length (numbers_of cancel vs) ≤ 48
  few_cancels = subst (λ ns. length ns ≤ 48) cancels fits.cancels

  few_groups : length (numbers_of group vs) ≤ 12
  few_groups = subst (λ ns. length ns ≤ 12) groups fits.groups

  -- a bit past all cancel variables, and below the groups
  apart_low : (bit : ℕ) → cancel_first (length (numbers_of cancel vs)) ≤ bit → bit < 768
      → (i : ℕ) (v : Variable) (kind : VariableKind) → slice_get vs i ≡ Some v → v.kind ≡ kind
      → IsApart (first_bit kind (place_of kind vs i)) (mask_bits kind) bit
  apart_low bit past low i v cancel at same from =
      let l = place_below cancel vs i v at same in omega (arith, l, past)
  apart_low bit past low i v group at same from = absurd (omega (arith, from, low))

  -- a bit past all groups
  apart_high : (bit : ℕ) → 768 ≤ bit → group_first (length (numbers_of group vs)) ≤ bit
      → (i : ℕ) (v : Variable) (kind : VariableKind) → slice_get vs i ≡ Some v → v.kind ≡ kind
      → IsApart (first_bit kind (place_of kind vs i)) (mask_bits kind) bit
  apart_high bit high past i v cancel at same from =
      let l = place_below cancel vs i v at same in let few = few_cancels in omega (arith, l, few, high)
  apart_high bit high past i v group at same from =
      let l = place_below group vs i v at same in omega (arith, l, past)

  stands_low : (bit : ℕ) → bit < 768 → has_bit image bit ≡ true → StandsIn bit
  stands_low bit low set =
      elim (cases_lt (bit / 16) (length (numbers_of cancel vs))) [
        | inl l ↦
            stands_as cancel (bit / 16) (bit % 16) bit (from_place cancel vs (bit / 16) l) (mod_below bit 16 (omega arith))
            (omega arith)
        | inr past ↦
            let behind : cancel_first (length (numbers_of cancel vs)) ≤ bit = omega (arith, past) in
            absurd (true≢false (sym set
            ∙ applies.past_cancels bit (subst (λ ns. cancel_first (length ns) ≤ bit) (sym cancels) behind) low
            ∙ was.others bit (λ i v l at. apart_low bit behind low i v v.kind at refl)))
      ]

  stands_high : (bit : ℕ) → 768 ≤ bit → has_bit image bit ≡ true → StandsIn bit
  stands_high bit high set =
      elim (cases_lt ((bit - 768) / 4) (length (numbers_of group vs))) [
        | inl l ↦
            stands_as group ((bit - 768) / 4) ((bit - 768) % 4) bit (from_place group vs ((bit - 768) / 4) l)
            (mod_below (bit - 768) 4 (omega arith)) (omega (arith, high))
        | inr past ↦
            let behind : group_first (length (numbers_of group vs)) ≤ bit = omega (arith, past, high) in
            absurd (true≢false (sym set
            ∙ applies.past_groups bit (subst (λ ns. group_first (length ns) ≤ bit) (sym groups) behind)
            ∙ was.others bit (λ i v l at. apart_high bit high behind i v v.kind at refl)))
      ]

  stands : (bit : ℕ) → has_bit image bit ≡ true → StandsIn bit
  stands bit set = elim (cases_lt bit 768) [ inl low ↦ stands_low bit low set | inr high ↦ stands_high bit high set ]

  is_within : EachSteps → IsWithin
  is_within steps bit set =
      let at = stands bit set in
      let v = at.variable in
      let i = at.place in
      let from = (image_of i v at.is_there at.to at.is_small).0 (sym (ap (has_bit image) at.is_bit) ∙ set) in
      let small = from.1 in
      let was_set = sym ((was.each i v (there i v at.is_there) at.is_there).bits from.0 small) ∙ from.2 in
      let goes = steps i v at.is_there from.0 was_set in
      ap (has_bit others) at.is_bit
      ∙ (is.each i v (there i v at.is_there) at.is_there).bits at.to at.is_small
      ∙ subst (λ n. is_set (mask_in after i) n ≡ true) from.3 goes

  -- what is told by the words is what is tested of the masks

  abbrev step_test : ℕ → Variable → Bool
  step_test i v = steps_into (step v) (mask_in before i) (mask_in after i)

  tests_step : EachSteps → all_from step_test 0 vs ≡ true
  tests_step h =
      each_at step_test vs
      (λ i v at. steps_tested (step v) v.kind (mask_in before i) (mask_in after i) (known_before i v at) (h i v at))

  steps_by_test : all_from step_test 0 vs ≡ true → EachSteps
  steps_by_test tests i v at =
      steps_told (step v) v.kind (mask_in before i) (mask_in after i) (known_before i v at)
      (at_each step_test vs tests i v at)

  same_truth : (a b : Bool) → (a ≡ true → b ≡ true) → (b ≡ true → a ≡ true) → a ≡ b
  same_truth true true f g = refl
  same_truth false false f g = refl
  same_truth true false f g = sym (f refl)
  same_truth false true f g = g refl

  both_load : (rest : Bool) → (loads vs before && (loads vs after && rest)) ≡ rest
  both_load rest =
      ap (λ t. t && (loads vs after && rest)) (all_load vs before loaded was there)
      ∙ ap (λ t. t && rest) (all_load vs after others is there)

  pub goes_tested : (result : Bool)
      → (IsTrue result) ↔ ((bit : ℕ) → has_bit image bit ≡ true → has_bit others bit ≡ true)
      → result ≡ all_step_into kept.pending.now vs p e before after
  goes_tested result tells =
      same_truth result (all_from step_test 0 vs) (λ r. tests_step (each_steps (tells.0 r)))
      (λ tests. tells.1 (is_within (steps_by_test tests)))
      ∙ sym (both_load (all_from step_test 0 vs))
