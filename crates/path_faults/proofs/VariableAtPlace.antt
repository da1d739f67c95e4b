-- The variable at a place of a list in memory.
use Rattle.std.proofs.Common.{◌≡◌, ℕ, ◌<◌, ◌≤◌, List, length, get_or, map, Some, option_map, refl, sym, ap, ◌∙◌}
use Rattle.std.specs.Prelude.{slice_get}
use Rattle.std.proofs.lemmas.Option.{slice_get-map, slice_get_read, slice_get_past, none-some, same_Some}
use Rattle.facts.specs.FactViews.{kind_view}
use Rattle.events.specs.declared.variable.Variable.{Variable as KeptVariable}
use Rattle.events.specs.VariableViews.{variable_view}
use Rattle.meaning.specs.BodyEvents.{Variable}

module _ (kept : List KeptVariable) (i : ℕ) where
  pub kind_there : (found : KeptVariable) → i < length kept → found ≡ get_or kept i found → (vs : List Variable)
      → vs ≡ map variable_view kept → (v : Variable) → slice_get vs i ≡ Some v → v.kind ≡ kind_view found.kind
  kind_there found within is vs same v there =
      let at = slice_get_read kept (length kept) i found refl within is in
      let is_v : Some (variable_view found) ≡ Some v =
      sym (ap (option_map variable_view) at) ∙ sym (slice_get-map variable_view kept i)
      ∙ sym (ap (λ l. slice_get l i) same) ∙ there in
      ap (λ w. w.kind) (sym (same_Some (variable_view found) v is_v))

  pub none_there : length kept ≤ i → (vs : List Variable) → vs ≡ map variable_view kept → (v : Variable)
      → slice_get vs i ≡ Some v → ⊥
  none_there past vs same v there =
      none-some v
      (sym (ap (option_map variable_view) (slice_get_past kept i past)) ∙ sym (slice_get-map variable_view kept i)
      ∙ sym (ap (λ l. slice_get l i) same) ∙ there)
