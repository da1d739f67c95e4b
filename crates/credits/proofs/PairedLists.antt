-- A list in memory beside the list that it stands for, place by place.
use Rattle.std.proofs.Common.{◌≡◌, ℕ, zero, suc, ◌+◌, List, [], ◌∷◌, drop, Some, refl, ap, ◌∙◌, subst}
use Rattle.std.specs.Prelude.{slice_get}
use Rattle.std.specs.List.{AllZip}
use Rattle.std.proofs.lemmas.List.{drop_more}
use Rattle.std.proofs.lemmas.Option.{get_or_from_slice_get, none-some, same_Some, slice_get_within}

module _ {A B : Type 0} (R : A → B → Type 0) where
  -- the element for which the one at that place stands
  pub record IsPair (xs : List A) (i : ℕ) (y : B) : Type 0 where
    pub first : A
    pub is_there : slice_get xs i ≡ Some first
    pub is_so : R first y

  pub pair_at : (xs : List A) (ys : List B) → AllZip R xs ys → (i : ℕ) (y : B) → slice_get ys i ≡ Some y → IsPair xs i y
  pair_at [] [] h i y e = absurd (none-some y e)
  pair_at [] (z ∷ ys) h i y e = absurd h
  pair_at (x ∷ xs) [] h i y e = absurd h
  pair_at (x ∷ xs) (z ∷ ys) h zero y e = record { first = x; is_there = refl; is_so = subst (R x) (same_Some z y e) h.0 }
  pair_at (x ∷ xs) (z ∷ ys) h (suc i) y e =
      let w = pair_at xs ys h.1 i y e in
      record { first = w.first; is_there = w.is_there; is_so = w.is_so }

  -- the element at that place and what stands behind it is what is left
  pub next_is : (xs : List A) (i : ℕ) (y : B) (w : IsPair xs i y) → drop i xs ≡ w.first ∷ drop (i + 1) xs
  next_is xs i y w =
      drop_more xs i w.first (slice_get_within xs i w.first w.is_there)
      ∙ ap (λ x. x ∷ drop (i + 1) xs) (get_or_from_slice_get xs i w.first w.first w.is_there)
