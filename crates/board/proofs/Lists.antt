-- Elements of lists.
use Rattle.std.proofs.Common.{◌≡◌, ℕ, zero, suc, ◌<◌, List, [], ◌∷◌, ◌++◌, Contains, Some, ◌⊎◌, inl, inr, refl, sym, ap, arith, length, slice_get}
use Rattle.std.proofs.Math.ListN.{set, replicate}

pub get_set : {X : Type 0} (xs : List X) (i j : ℕ) (v y : X) → slice_get (set xs i v) j ≡ Some y
    → ((j ≡ i) × (y ≡ v)) ⊎ ((j ≡ i → ⊥) × (slice_get xs j ≡ Some y))
get_set [] i j v y e = cc
get_set (x ∷ xs) zero zero v y e = inl (refl, cc)
get_set (x ∷ xs) zero (suc j) v y e = inr ((λ h. omega (arith, h)), e)
get_set (x ∷ xs) (suc i) zero v y e = inr ((λ h. omega (arith, h)), e)
get_set (x ∷ xs) (suc i) (suc j) v y e =
    elim (get_set xs i j v y e) [
      | inl h ↦ inl (ap suc h.0, h.1)
      | inr h ↦ inr ((λ k. h.0 (omega (arith, k))), h.1)
    ]

pub get_set_here : {X : Type 0} (xs : List X) (i : ℕ) (x v : X) → slice_get xs i ≡ Some x → slice_get (set xs i v) i ≡ Some v
get_set_here [] i x v e = cc
get_set_here (y ∷ ys) zero x v e = refl
get_set_here (y ∷ ys) (suc i) x v e = get_set_here ys i x v e

pub get_set_other : {X : Type 0} (xs : List X) (i j : ℕ) (v : X) → (j ≡ i → ⊥) → slice_get (set xs i v) j ≡ slice_get xs j
get_set_other [] i j v apart = refl
get_set_other (x ∷ xs) zero zero v apart = absurd (apart refl)
get_set_other (x ∷ xs) zero (suc j) v apart = refl
get_set_other (x ∷ xs) (suc i) zero v apart = refl
get_set_other (x ∷ xs) (suc i) (suc j) v apart = get_set_other xs i j v (λ e. apart (ap suc e))

pub get_replicate : {X : Type 0} (n i : ℕ) (v y : X) → slice_get (replicate n v) i ≡ Some y → y ≡ v
get_replicate zero i v y e = cc
get_replicate (suc n) zero v y e = cc
get_replicate (suc n) (suc i) v y e = get_replicate n i v y e

pub get_there : {X : Type 0} (xs : List X) (i : ℕ) → i < length xs → (x : X) × (slice_get xs i ≡ Some x)
get_there [] i low = absurd (omega (arith, low))
get_there (x ∷ xs) zero low = (x, refl)
get_there (x ∷ xs) (suc i) low = get_there xs i (omega (arith, low))

pub get_push : {X : Type 0} (xs : List X) (i : ℕ) (v y : X) → slice_get (xs ++ v ∷ []) i ≡ Some y
    → (slice_get xs i ≡ Some y) ⊎ (y ≡ v)
get_push [] zero v y e = inr cc
get_push [] (suc i) v y e = cc
get_push (x ∷ xs) zero v y e = inl e
get_push (x ∷ xs) (suc i) v y e = get_push xs i v y e

pub get_before : {X : Type 0} (xs : List X) (i : ℕ) (v y : X) → slice_get xs i ≡ Some y → slice_get (xs ++ v ∷ []) i ≡ Some y
get_before [] i v y e = cc
get_before (x ∷ xs) zero v y e = e
get_before (x ∷ xs) (suc i) v y e = get_before xs i v y e

pub get_last : {X : Type 0} (xs : List X) (v : X) → slice_get (xs ++ v ∷ []) (length xs) ≡ Some v
get_last [] v = refl
get_last (x ∷ xs) v = get_last xs v

pub none_in : {X : Type 0} (x : X) → Contains [] x → ⊥
none_in x h = omega (arith, h.1)

pub in_rest : {X : Type 0} (x : X) (xs : List X) (y : X) → (y ≡ x → ⊥) → Contains (x ∷ xs) y → Contains xs y
in_rest x xs y apart (zero, low, e) = absurd (apart (sym e))
in_rest x xs y apart (suc k, low, e) = (k, omega (arith, low), e)
