-- Maps in which the first place of a path counts.
use Rattle.std.proofs.Common.{◌≡◌, ℕ, Bool, true, false, if◌then◌else◌, List, Option, Some, None, is_some, bytes_eq, Bor, refl, sym, ap, ◌∙◌, true≢false, map}
use Rattle.std.proofs.lemmas.Map.Text.{hash_map_updates_str}
use Rattle.std.proofs.lemmas.Slice.Eq.{bytes_eq-Decides}
use Rattle.indexmap.specs.IndexMap.{IndexMap, Updates}
use Rattle.imports.specs.Ranks.{Package}
use Rattle.imports.specs.Settling.{places_of}
use Rattle.imports.specs.Views.{at_path, or_else}

module _ {A : Type 0} where
  or_else-none : (o : Option A) → or_else o None ≡ o
  or_else-none None = refl
  or_else-none (Some a) = refl

  pub none_from : (o : Option A) → is_some o ≡ false → o ≡ None
  none_from None e = refl
  none_from (Some a) e = absurd (true≢false e)

-- a path that had no value was inserted
module _ {V S : Type 0} (before after : IndexMap (Bor (List ℕ)) V S) (key : Bor (List ℕ)) (value : V) where
  pub inserted :
      at_path before key.now ≡ None
      → Updates (λ x y. bytes_eq x.now y.now) before after key (Some value)
      → (path : List ℕ)
      → at_path after path ≡ or_else (at_path before path) (if bytes_eq key.now path then Some value else None)
  inserted none updates path =
      hash_map_updates_str key.now before after (Some value) updates path ∙ by (bytes_eq key.now path) refl
    where
      by : (b : Bool) → bytes_eq key.now path ≡ b
          → (if b then Some value else at_path before path)
          ≡ or_else (at_path before path) (if b then Some value else None)
      by true e = sym (ap (λ o. or_else o (Some value))
          (ap (at_path before) (sym ((bytes_eq-Decides key.now path).0 e)) ∙ none))
      by false e = sym (or_else-none (at_path before path))

-- two functions that give each path the same place
pub same_places : (f g : List ℕ → Option ℕ) → ((path : List ℕ) → f path ≡ g path) → (ps : List Package)
    → map (places_of f) ps ≡ map (places_of g) ps
same_places f g same ps = ap (λ (h : List ℕ → Option ℕ). map (places_of h) ps) (λ i path. same path i)
