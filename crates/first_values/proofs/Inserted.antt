-- What a map in which the first value of a name counts has after one was inserted.
use Rattle.std.proofs.Common.{◌≡◌, ℕ, Bool, true, false, if◌then◌else◌, List, Option, Some, None, is_some, bytes_eq, Bor, refl, sym, ap, ◌∙◌, true≢false}
use Rattle.std.specs.Option.{option_or}
use Rattle.std.proofs.lemmas.Map.Text.{hash_map_updates_str}
use Rattle.std.proofs.lemmas.Slice.Eq.{bytes_eq-Decides}
use Rattle.indexmap.specs.IndexMap.{IndexMap, Updates}
use Rattle.first_values.specs.ValuesByName.{at_name, only_at}

module _ {A : Type 0} where
  or_none : (o : Option A) → o ≡ option_or o None
  or_none None = refl
  or_none (Some a) = refl

  pub none_from : (o : Option A) → is_some o ≡ false → o ≡ None
  none_from None e = refl
  none_from (Some a) e = absurd (true≢false e)

-- a name that had no value was inserted
module _ {V S : Type 0} (before after : IndexMap (Bor (List ℕ)) V S) (key : Bor (List ℕ)) (value : V) where
  pub inserted :
      at_name before key.now ≡ None
      → Updates (λ x y. bytes_eq x.now y.now) before after key (Some value)
      → (name : List ℕ) → at_name after name ≡ option_or (at_name before name) (only_at key.now value name)
  inserted none updates name =
      hash_map_updates_str key.now before after (Some value) updates name ∙ by (bytes_eq key.now name) refl
    where
      by : (b : Bool) → bytes_eq key.now name ≡ b
          → (if b then Some value else at_name before name)
          ≡ option_or (at_name before name) (if b then Some value else None)
      by true e = sym (ap (λ o. option_or o (Some value))
          (ap (at_name before) (sym ((bytes_eq-Decides key.now name).0 e)) ∙ none))
      by false e = or_none (at_name before name)
