-- Lists that get one element more.
use Rattle.std.proofs.Common.{◌≡◌, ℕ, zero, suc, ◌⊎◌, inl, inr, List, [], ◌∷◌, ◌++◌, length, Some, refl, ap}
use Rattle.std.specs.Prelude.{slice_get}
use Rattle.std.proofs.lemmas.Option.{none-some, same_Some}

pub last_or_before : {X : Type 0} (xs : List X) (y : X) (i : ℕ) (z : X) → slice_get (xs ++ y ∷ []) i ≡ Some z
    → (slice_get xs i ≡ Some z) ⊎ ((i ≡ length xs) × (y ≡ z))
last_or_before [] y zero z e = inr (refl, same_Some y z e)
last_or_before [] y (suc i) z e = absurd (none-some z e)
last_or_before (x ∷ xs) y zero z e = inl e
last_or_before (x ∷ xs) y (suc i) z e =
    elim (last_or_before xs y i z e) [ inl before ↦ inl before | inr last ↦ inr (ap suc last.0, last.1) ]

pub get_before : {X : Type 0} (xs : List X) (y : X) (i : ℕ) (z : X)
    → slice_get xs i ≡ Some z
    → slice_get (xs ++ y ∷ []) i ≡ Some z
get_before [] y i z e = absurd (none-some z e)
get_before (x ∷ xs) y zero z e = e
get_before (x ∷ xs) y (suc i) z e = get_before xs y i z e

pub get_last : {X : Type 0} (xs : List X) (y : X) → slice_get (xs ++ y ∷ []) (length xs) ≡ Some y
get_last [] y = refl
get_last (x ∷ xs) y = get_last xs y
