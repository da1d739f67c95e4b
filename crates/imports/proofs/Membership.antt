-- Membership of a list, by cases on the list, and what stands at a place.
use Rattle.std.proofs.Common.{◌≡◌, ℕ, zero, suc, ◌<◌, ◌⊎◌, inl, inr, List, [], ◌∷◌, ◌++◌, length, get_or, map, Contains, Option, Some, None, option_map, refl, ap, ◌∙◌, sym, subst, arith}
use Rattle.std.specs.Prelude.{slice_get, filter_map}
use Rattle.std.specs.List.{cons_option}
use Rattle.std.proofs.lemmas.Option.{slice_get-map, get_or_from_slice_get, same_Some, none-some}

pub contains_nil : {X : Type 0} (x : X) → Contains [] x → ⊥
contains_nil x h = omega (arith, h.1)

pub contains_here : {X : Type 0} (x : X) (xs : List X) → Contains (x ∷ xs) x
contains_here x xs = (0, omega arith, refl)

pub contains_there : {X : Type 0} (y x : X) (xs : List X) → Contains xs x → Contains (y ∷ xs) x
contains_there y x xs h = (suc h.0, omega (arith, h.1), h.2)

pub contains_cases : {X : Type 0} (y x : X) (xs : List X) → Contains (y ∷ xs) x → (y ≡ x) ⊎ Contains xs x
contains_cases y x xs h = at_index h.0 h.1 h.2
  where
    at_index : (k : ℕ) → k < length (y ∷ xs) → get_or (y ∷ xs) k x ≡ x → (y ≡ x) ⊎ Contains xs x
    at_index zero l e = inl e
    at_index (suc k) l e = inr (k, omega (arith, l), e)

-- What stands at a place

pub get_pushed : {X : Type 0} (xs : List X) (y : X) → slice_get (xs ++ y ∷ []) (length xs) ≡ Some y
get_pushed [] y = refl
get_pushed (x ∷ xs) y = get_pushed xs y

pub get_kept : {X : Type 0} (xs : List X) (y : X) (k : ℕ) (x : X)
    → slice_get xs k ≡ Some x
    → slice_get (xs ++ y ∷ []) k ≡ Some x
get_kept [] y k x e = absurd (none-some x e)
get_kept (z ∷ xs) y zero x e = e
get_kept (z ∷ xs) y (suc k) x e = get_kept xs y k x e

pub get_cases : {X : Type 0} (xs : List X) (y : X) (k : ℕ) (x : X)
    → slice_get (xs ++ y ∷ []) k ≡ Some x
    → ((k ≡ length xs) × (y ≡ x)) ⊎ (slice_get xs k ≡ Some x)
get_cases [] y zero x e = inl (refl, same_Some y x e)
get_cases [] y (suc k) x e = absurd (none-some x e)
get_cases (z ∷ xs) y zero x e = inr e
get_cases (z ∷ xs) y (suc k) x e =
    elim (get_cases xs y k x e) [
      | inl h ↦ inl (ap suc h.0, h.1)
      | inr h ↦ inr h
    ]

-- a row of a mapped list
module _ {X Y : Type 0} (f : X → List Y) (xs : List X) (i : ℕ) where
  pub row_at : (x : X) → slice_get xs i ≡ Some x → get_or (map f xs) i [] ≡ f x
  row_at x e = get_or_from_slice_get (map f xs) i (f x) [] (slice_get-map f xs i ∙ ap (option_map f) e)

  pub row_has : (y : Y) → Contains (get_or (map f xs) i []) y → (x : X) × (slice_get xs i ≡ Some x) × Contains (f x) y
  row_has y h = by (slice_get xs i) refl
    where
      by : (o : Option X) → slice_get xs i ≡ o → (x : X) × (slice_get xs i ≡ Some x) × Contains (f x) y
      by None e = absurd (contains_nil y (subst (λ (row : List Y). Contains row y) (nothing e) h))
        where
          nothing : slice_get xs i ≡ None → get_or (map f xs) i [] ≡ []
          nothing e = none_there (map f xs) i (slice_get-map f xs i ∙ ap (option_map f) e)
            where
              none_there : (rows : List (List Y)) (k : ℕ) → slice_get rows k ≡ None → get_or rows k [] ≡ []
              none_there [] k g = refl
              none_there (r ∷ rows) zero g = absurd (none-some r (sym g))
              none_there (r ∷ rows) (suc k) g = none_there rows k g
      by (Some x) e = (x, e, subst (λ (row : List Y). Contains row y) (row_at x e) h)

-- Members of a list that is made by a function

module _ {X Y : Type 0} (f : X → Option Y) where
  made_by : (x : X) (xs : List X) (y : Y) (o : Option Y)
      → f x ≡ o
      → (Contains (filter_map f xs) y → (z : X) × Contains xs z × (f z ≡ Some y))
      → Contains (cons_option o (filter_map f xs)) y
      → (z : X) × Contains (x ∷ xs) z × (f z ≡ Some y)
  made_by x xs y None e later g = let w = later g in (w.0, contains_there x w.0 xs w.1, w.2)
  made_by x xs y (Some z) e later g =
      elim (contains_cases z y (filter_map f xs) g) [
        | inl p ↦ (x, contains_here x xs, e ∙ ap Some p)
        | inr k ↦ let w = later k in (w.0, contains_there x w.0 xs w.1, w.2)
      ]

  pub made_of : (xs : List X) (y : Y) → Contains (filter_map f xs) y → (x : X) × Contains xs x × (f x ≡ Some y)
  made_of [] y h = absurd (contains_nil y h)
  made_of (x ∷ xs) y h = made_by x xs y (f x) refl (made_of xs y) h

  makes_by : (z x : X) (xs : List X) (y : Y) (o : Option Y)
      → f z ≡ o
      → f x ≡ Some y
      → (Contains xs x → Contains (filter_map f xs) y)
      → (z ≡ x) ⊎ Contains xs x
      → Contains (cons_option o (filter_map f xs)) y
  makes_by z x xs y None g e later (inl p) = absurd (none-some y (sym g ∙ ap f p ∙ e))
  makes_by z x xs y None g e later (inr k) = later k
  makes_by z x xs y (Some w) g e later (inl p) =
      subst (λ (v : Y). Contains (w ∷ filter_map f xs) v) (same_Some w y (sym g ∙ ap f p ∙ e))
      (contains_here w (filter_map f xs))
  makes_by z x xs y (Some w) g e later (inr k) = contains_there w y (filter_map f xs) (later k)

  pub makes : (xs : List X) (x : X) (y : Y) → Contains xs x → f x ≡ Some y → Contains (filter_map f xs) y
  makes [] x y h e = absurd (contains_nil x h)
  makes (z ∷ xs) x y h e = makes_by z x xs y (f z) refl e (λ k. makes xs x y k e) (contains_cases z x xs h)
