-- Membership of a mapped list.
use Rattle.std.proofs.Common.{◌≡◌, ℕ, zero, suc, ◌<◌, ◌⊎◌, inl, inr, List, [], ◌∷◌, length, get_or, map, Contains, refl, subst, arith}

contains_here : {X : Type 0} (x : X) (xs : List X) → Contains (x ∷ xs) x
contains_here x xs = (0, omega arith, refl)

contains_there : {X : Type 0} (y x : X) (xs : List X) → Contains xs x → Contains (y ∷ xs) x
contains_there y x xs h = (suc h.0, omega (arith, h.1), h.2)

contains_cases : {X : Type 0} (y x : X) (xs : List X) → Contains (y ∷ xs) x → (y ≡ x) ⊎ Contains xs x
contains_cases y x xs h = at_index h.0 h.1 h.2
  where
    at_index : (k : ℕ) → k < length (y ∷ xs) → get_or (y ∷ xs) k x ≡ x → (y ≡ x) ⊎ Contains xs x
    at_index zero l e = inl e
    at_index (suc k) l e = inr (k, omega (arith, l), e)

pub contains_map : {X Y : Type 0} (f : X → Y) (xs : List X) (x : X) → Contains xs x → Contains (map f xs) (f x)
contains_map f [] x h = absurd (omega (arith, h.1))
contains_map f (y ∷ xs) x h =
    elim (contains_cases y x xs h) [
      | inl p ↦ subst (λ z. Contains (f y ∷ map f xs) (f z)) p (contains_here (f y) (map f xs))
      | inr g ↦ contains_there (f y) (f x) (map f xs) (contains_map f xs x g)
    ]

pub contains_unmap : {X Y : Type 0} (f : X → Y) (xs : List X) (z : Y) → Contains (map f xs) z → (x : X) × Contains xs x × (f x ≡ z)
contains_unmap f [] z h = absurd (omega (arith, h.1))
contains_unmap f (y ∷ xs) z h =
    elim (contains_cases (f y) z (map f xs) h) [
      | inl p ↦ (y, contains_here y xs, p)
      | inr g ↦ let w = contains_unmap f xs z g in (w.0, contains_there y w.0 xs w.1, w.2)
    ]
