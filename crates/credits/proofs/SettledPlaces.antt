-- Variables that a body captures and settles, by their places.
use Rattle.std.proofs.Common.{◌≡◌, ℕ, ◌+◌, ◌<◌, ◌≤◌, ◌⊎◌, inl, inr, Bool, true, false, List, [], ◌∷◌, ◌++◌, Option, Some, None, option_map, map, length, get_or, refl, sym, ap, ◌∙◌, subst, arith}
use Rattle.std.specs.Prelude.{◌↔◌, ◌==◌, ◌≢◌, slice_get}
use Rattle.std.proofs.lemmas.Bool.{false≢true, or_cases, or_left, or_right}
use Rattle.std.proofs.lemmas.Bool.Decides.{Decides-eqb}
use Rattle.std.proofs.lemmas.List.Folds.{list_any-append}
use Rattle.std.proofs.lemmas.Option.{none-some, same_Some, get_or_from_slice_get, slice_get-get_or, slice_get-map, slice_get_past, slice_get_read, slice_get_within}
use Rattle.std.proofs.lemmas.List.{length-map}
use Rattle.meaning.specs.BodyEvents.{Variable, VariableRole, own_parameter, own_receiver, declared_in_body, captured}
use Rattle.meaning_packages.specs.PathFaults.{Paths}
use Rattle.meaning_packages.specs.Credits.{Settles}
use Rattle.events.specs.declared.variable.Variable.{Variable as KeptVariable}
use Rattle.events.specs.VariableViews.{variable_view}
use Rattle.credits.specs.CreditViews.{is_among}
use Rattle.credits.specs.SettledVariables.{is_captured, SettlesAt, SettlesBefore, SettlesCaptured}

pub is_role : (r : VariableRole) → is_captured r ≡ true → r ≡ captured
is_role (own_parameter k) e = absurd (false≢true e)
is_role own_receiver e = absurd (false≢true e)
is_role declared_in_body e = absurd (false≢true e)
is_role captured e = refl

-- One place

module _ (kept : List KeptVariable) (vs : List Variable) (same : vs ≡ map variable_view kept) (place : ℕ) where
  pub view_there : (v : KeptVariable) → place < length kept → v ≡ get_or kept place v
      → slice_get vs place ≡ Some (variable_view v)
  view_there v within is =
      ap (λ us. slice_get us place) same ∙ slice_get-map variable_view kept place
      ∙ ap (option_map variable_view) (slice_get_read kept (length kept) place v refl within is)

  pub view_past : length kept ≤ place → slice_get vs place ≡ None
  view_past past =
      ap (λ us. slice_get us place) same ∙ slice_get-map variable_view kept place
      ∙ ap (option_map variable_view) (slice_get_past kept place past)

  pub all_places : length kept ≤ place → length vs ≤ place
  all_places past = omega (arith, ap length same, length-map kept variable_view, past)

module _ (b : Paths) (place number : ℕ) where
  pub nothing_there : slice_get b.variables place ≡ None → (None ≡ Some number) ↔ SettlesAt b place number
  nothing_there past =
      (λ e. absurd (none-some number e), λ h. absurd (none-some h.variable (sym past ∙ h.is_there)))

  module _ (v : Variable) (is_there : slice_get b.variables place ≡ Some v) where
    same_variable : (h : SettlesAt b place number) → h.variable ≡ v
    same_variable h = same_Some h.variable v (sym h.is_there ∙ is_there)

    pub not_captured : is_captured v.role ≡ false → (None ≡ Some number) ↔ SettlesAt b place number
    not_captured e = (
      λ bad. absurd (none-some number bad),
      λ h. absurd (false≢true (sym e ∙ ap (λ w. is_captured w.role) (sym (same_variable h)) ∙ ap is_captured h.is_captured)),
    )

    pub not_settled : (Settles b v → ⊥) → (None ≡ Some number) ↔ SettlesAt b place number
    not_settled open_there = (
      λ bad. absurd (none-some number bad),
      λ h. absurd (open_there (subst (Settles b) (same_variable h) h.settles)),
    )

    pub is_settled : is_captured v.role ≡ true → Settles b v → (Some v.number ≡ Some number) ↔ SettlesAt b place number
    is_settled e settled = (
      λ same. record {
        variable = v;
        is_there = is_there;
        is_captured = is_role v.role e;
        is_it = same_Some v.number number same;
        settles = settled;
      },
      λ h. ap Some (ap (λ w. w.number) (sym (same_variable h)) ∙ h.is_it),
    )

-- All places

pub among_pushed : (numbers : List ℕ) (n number : ℕ)
    → (is_among (numbers ++ n ∷ []) number ≡ true) ↔ ((is_among numbers number ≡ true) ⊎ (n ≡ number))
among_pushed numbers n number =
    let parts = list_any-append (λ m. m == number) numbers (n ∷ []) in (
      λ e. elim (or_cases (is_among numbers number) (is_among (n ∷ []) number) (sym parts ∙ e)) [
        | inl old ↦ inl old
        | inr last ↦ inr (last_one last)
      ],
      λ h. parts ∙ elim h [
        | inl old ↦ or_left (is_among numbers number) (is_among (n ∷ []) number) old
        | inr same ↦ or_right (is_among numbers number) (is_among (n ∷ []) number) (or_left (n == number) false ((Decides-eqb n number).1 same))
      ],
    )
  where
    last_one : is_among (n ∷ []) number ≡ true → n ≡ number
    last_one e = elim (or_cases (n == number) false e) [
      | inl same ↦ (Decides-eqb n number).0 same
      | inr bad ↦ absurd (false≢true bad)
    ]

module _ (b : Paths) where
  pub none_before : (number : ℕ) → (is_among [] number ≡ true) ↔ SettlesBefore b 0 number
  none_before number = (λ e. absurd (false≢true e), λ h. absurd (omega (arith, h.is_before)))

  module _ (place : ℕ) (numbers : List ℕ)
      (so_far : (number : ℕ) → (is_among numbers number ≡ true) ↔ SettlesBefore b place number) where
    later : (number : ℕ) → SettlesBefore b place number → SettlesBefore b (place + 1) number
    later number h = record { place = h.place; is_before = omega (arith, h.is_before); settles = h.settles }

    last : (number : ℕ) → SettlesAt b place number → SettlesBefore b (place + 1) number
    last number h = record { place = place; is_before = omega arith; settles = h }

    earlier : (number : ℕ) → SettlesBefore b (place + 1) number → SettlesBefore b place number ⊎ SettlesAt b place number
    earlier number h = by (h.place == place) (Decides-eqb h.place place)
      where
        by : (t : Bool) → ((t ≡ true → h.place ≡ place) × (h.place ≡ place → t ≡ true))
            → SettlesBefore b place number ⊎ SettlesAt b place number
        by true d = inr (subst (λ p. SettlesAt b p number) (d.0 refl) h.settles)
        by false d =
            let apart : h.place ≢ place = λ e. false≢true (d.1 e) in
            inl record { place = h.place; is_before = omega (arith, h.is_before, apart); settles = h.settles }

    pub nothing_more : (after : List ℕ) (r : Option ℕ) → r ≡ None → after ≡ numbers
        → ((number : ℕ) → (r ≡ Some number) ↔ SettlesAt b place number)
        → (number : ℕ) → (is_among after number ≡ true) ↔ SettlesBefore b (place + 1) number
    nothing_more after r none same there number =
        let alike : is_among after number ≡ is_among numbers number = ap (λ ns. is_among ns number) same in (
          λ e. later number ((so_far number).0 (sym alike ∙ e)),
          λ h. elim (earlier number h) [
            | inl before ↦ alike ∙ (so_far number).1 before
            | inr at ↦ absurd (none-some number (sym none ∙ (there number).1 at))
          ],
        )

    pub one_more : (after : List ℕ) (r : Option ℕ) (n : ℕ) → r ≡ Some n → after ≡ numbers ++ n ∷ []
        → ((number : ℕ) → (r ≡ Some number) ↔ SettlesAt b place number)
        → (number : ℕ) → (is_among after number ≡ true) ↔ SettlesBefore b (place + 1) number
    one_more after r n some same there number =
        let alike : is_among after number ≡ is_among (numbers ++ n ∷ []) number = ap (λ ns. is_among ns number) same in (
          λ e. elim ((among_pushed numbers n number).0 (sym alike ∙ e)) [
            | inl old ↦ later number ((so_far number).0 old)
            | inr it ↦ last number ((there number).0 (some ∙ ap Some it))
          ],
          λ h. alike ∙ (among_pushed numbers n number).1 (elim (earlier number h) [
            | inl before ↦ inl ((so_far number).1 before)
            | inr at ↦ inr (same_Some n number (sym some ∙ (there number).1 at))
          ]),
        )

  pub of_all : (number count : ℕ) → length b.variables ≤ count → SettlesBefore b count number ↔ SettlesCaptured b number
  of_all number count all = (
    λ h. record {
      variable = h.settles.variable;
      is_of_body = (
        h.place,
        slice_get_within b.variables h.place h.settles.variable h.settles.is_there,
        get_or_from_slice_get b.variables h.place h.settles.variable h.settles.variable h.settles.is_there,
      );
      is_captured = h.settles.is_captured;
      is_it = h.settles.is_it;
      settles = h.settles.settles;
    },
    λ h. record {
      place = h.is_of_body.0;
      is_before = omega (arith, h.is_of_body.1, all);
      settles = record {
        variable = h.variable;
        is_there = slice_get-get_or b.variables h.is_of_body.0 h.variable h.is_of_body.1 ∙ ap Some h.is_of_body.2;
        is_captured = h.is_captured;
        is_it = h.is_it;
        settles = h.settles;
      };
    },
  )
