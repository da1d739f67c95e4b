-- Variables that a body captures and its certificate settles, by their places.
use Rattle.std.proofs.Common.{◌≡◌, ℕ, ◌+◌, ◌<◌, ◌≤◌, ◌⊎◌, inl, inr, Bool, true, false, List, [], ◌∷◌, ◌++◌, Option, Some, None, option_map, map, length, get_or, refl, sym, ap, ◌∙◌, subst, arith}
use Rattle.std.specs.Prelude.{◌↔◌, ◌==◌, ◌≢◌, slice_get}
use Rattle.std.proofs.lemmas.Bool.{false≢true}
use Rattle.std.proofs.lemmas.Bool.Decides.{Decides-eqb}
use Rattle.std.proofs.lemmas.Option.{none-some, same_Some, slice_get-map, slice_get_past, slice_get_read, slice_get_within}
use Rattle.checker.specs.Certificates.{CheckedBody, SettlesIn}
use Rattle.credits.proofs.SettledPlaces.{is_role, among_pushed}
use Rattle.credits.specs.CreditViews.{is_among}
use Rattle.credits.specs.SettledVariables.{is_captured}
use Rattle.events.specs.declared.variable.Variable.{Variable as KeptVariable}
use Rattle.events.specs.VariableViews.{variable_view}
use Rattle.meaning.specs.BodyEvents.{Variable}
use Rattle.verifier.specs.SettledPlaces.{SettlesPlace, SettlesBefore, SettlesSome}

-- One place

pub view_there : (kept : List KeptVariable) (place : ℕ) (v : KeptVariable) → place < length kept → v ≡ get_or kept place v
    → slice_get (map variable_view kept) place ≡ Some (variable_view v)
view_there kept place v within is =
    slice_get-map variable_view kept place
    ∙ ap (option_map variable_view) (slice_get_read kept (length kept) place v refl within is)

pub view_past : (kept : List KeptVariable) (place : ℕ) → length kept ≤ place
    → slice_get (map variable_view kept) place ≡ None
view_past kept place past =
    slice_get-map variable_view kept place ∙ ap (option_map variable_view) (slice_get_past kept place past)

module _ (b : CheckedBody) (states : List (List ℕ)) (place number : ℕ) where
  pub nothing_there : slice_get b.variables place ≡ None → (None ≡ Some number) ↔ SettlesPlace b states place number
  nothing_there past =
      (λ e. absurd (none-some number e), λ h. absurd (none-some h.found (sym past ∙ h.is_there)))

  module _ (v : Variable) (is_there : slice_get b.variables place ≡ Some v) where
    same_variable : (h : SettlesPlace b states place number) → h.found ≡ v
    same_variable h = same_Some h.found v (sym h.is_there ∙ is_there)

    pub not_captured : is_captured v.role ≡ false → (None ≡ Some number) ↔ SettlesPlace b states place number
    not_captured e = (
      λ bad. absurd (none-some number bad),
      λ h. absurd (false≢true (sym e ∙ ap (λ w. is_captured w.role) (sym (same_variable h)) ∙ ap is_captured h.is_captured)),
    )

    pub not_settled : (SettlesIn b states place v → ⊥) → (None ≡ Some number) ↔ SettlesPlace b states place number
    not_settled open_there = (
      λ bad. absurd (none-some number bad),
      λ h. absurd (open_there (subst (SettlesIn b states place) (same_variable h) h.settles)),
    )

    pub is_settled : is_captured v.role ≡ true → SettlesIn b states place v
        → (Some v.number ≡ Some number) ↔ SettlesPlace b states place number
    is_settled e settled = (
      λ same. record {
        found = v;
        is_there = is_there;
        is_captured = is_role v.role e;
        is_it = same_Some v.number number same;
        settles = settled;
      },
      λ h. ap Some (ap (λ w. w.number) (sym (same_variable h)) ∙ h.is_it),
    )

-- All places

module _ (b : CheckedBody) (states : List (List ℕ)) where
  pub none_before : (number : ℕ) → (is_among [] number ≡ true) ↔ SettlesBefore b states 0 number
  none_before number = (λ e. absurd (false≢true e), λ h. absurd (omega (arith, h.is_before)))

  module _ (place : ℕ) (numbers : List ℕ)
      (so_far : (number : ℕ) → (is_among numbers number ≡ true) ↔ SettlesBefore b states place number) where
    later : (number : ℕ) → SettlesBefore b states place number → SettlesBefore b states (place + 1) number
    later number h = record { place = h.place; is_before = omega (arith, h.is_before); settles = h.settles }

    last : (number : ℕ) → SettlesPlace b states place number → SettlesBefore b states (place + 1) number
    last number h = record { place = place; is_before = omega arith; settles = h }

    earlier : (number : ℕ) → SettlesBefore b states (place + 1) number
        → SettlesBefore b states place number ⊎ SettlesPlace b states place number
    earlier number h = by (h.place == place) (Decides-eqb h.place place)
      where
        by : (t : Bool) → ((t ≡ true → h.place ≡ place) × (h.place ≡ place → t ≡ true))
            → SettlesBefore b states place number ⊎ SettlesPlace b states place number
        by true d = inr (subst (λ p. SettlesPlace b states p number) (d.0 refl) h.settles)
        by false d =
            let apart : h.place ≢ place = λ e. false≢true (d.1 e) in
            inl record { place = h.place; is_before = omega (arith, h.is_before, apart); settles = h.settles }

    pub nothing_more : (after : List ℕ) (r : Option ℕ) → r ≡ None → after ≡ numbers
        → ((number : ℕ) → (r ≡ Some number) ↔ SettlesPlace b states place number)
        → (number : ℕ) → (is_among after number ≡ true) ↔ SettlesBefore b states (place + 1) number
    nothing_more after r none same there number =
        let alike : is_among after number ≡ is_among numbers number = ap (λ ns. is_among ns number) same in (
          λ e. later number ((so_far number).0 (sym alike ∙ e)),
          λ h. elim (earlier number h) [
            | inl before ↦ alike ∙ (so_far number).1 before
            | inr at ↦ absurd (none-some number (sym none ∙ (there number).1 at))
          ],
        )

    pub one_more : (after : List ℕ) (r : Option ℕ) (n : ℕ) → r ≡ Some n → after ≡ numbers ++ n ∷ []
        → ((number : ℕ) → (r ≡ Some number) ↔ SettlesPlace b states place number)
        → (number : ℕ) → (is_among after number ≡ true) ↔ SettlesBefore b states (place + 1) number
    one_more after r n some same there number =
        let alike : is_among after number ≡ is_among (numbers ++ n ∷ []) number = ap (λ ns. is_among ns number) same in (
          λ e. elim ((among_pushed numbers n number).0 (sym alike ∙ e)) [
            | inl old ↦ later number ((so_far number).0 old)
            | inr it ↦ last number ((there number).0 (some ∙ ap Some it))
          ],
          λ h. alike ∙ (among_pushed numbers n number).1 (elim (earlier number h) [
            | inl before ↦ inl ((so_far number).1 before)
            | inr at ↦ inr (same_Some n number (sym some ∙ (there number).1 at))
          ]),
        )

  pub of_all : (number count : ℕ) → length b.variables ≤ count
      → SettlesBefore b states count number ↔ SettlesSome b states number
  of_all number count all = (
    λ h. record { place = h.place; settles = h.settles },
    λ h.
        let within = slice_get_within b.variables h.place h.settles.found h.settles.is_there in
        record { place = h.place; is_before = omega (arith, within, all); settles = h.settles },
  )
