-- The table of the pairs that were seen, where one more is set.
use Rattle.std.proofs.Common.{◌≡◌, ℕ, zero, suc, ◌+◌, ◌<◌, Bool, true, false, ◌⊎◌, inl, inr, List, [], ◌∷◌, length, get_or, refl, ap, arith}
use Rattle.std.proofs.Math.ListN.{set}
use Rattle.searches.specs.Searched.{Pair}
use Rattle.searches.specs.Searching.{place_of, count_unseen}

-- what is set after one place was set was set before, or is that place
pub set_cases : (bs : List Bool) (i j : ℕ) → get_or (set bs i true) j false ≡ true
    → (j ≡ i) ⊎ (get_or bs j false ≡ true)
set_cases [] i j e = inr e
set_cases (b ∷ bs) zero zero e = inl refl
set_cases (b ∷ bs) zero (suc j) e = inr e
set_cases (b ∷ bs) (suc i) zero e = inr e
set_cases (b ∷ bs) (suc i) (suc j) e = elim (set_cases bs i j e) [ inl same ↦ inl (ap suc same) | inr was ↦ inr was ]

-- one place less is left
pub one_less : (bs : List Bool) (i : ℕ) → i < length bs → get_or bs i false ≡ false
    → count_unseen (set bs i true) + 1 ≡ count_unseen bs
one_less [] i less e = absurd (omega (arith, less))
one_less (true ∷ bs) zero less e = let bad : true ≡ false = e in cc
one_less (false ∷ bs) zero less e = omega arith
one_less (true ∷ bs) (suc i) less e = one_less bs i (omega (arith, less)) e
one_less (false ∷ bs) (suc i) less e =
    let rest = one_less bs i (omega (arith, less)) e in omega (arith, rest)

-- a place is that of one pair
pub one_pair : (p q : Pair) → p.class < 16 → q.class < 16 → place_of p ≡ place_of q → p ≡ q
one_pair p q a b e =
    let node : p.node ≡ q.node = omega (arith, a, b, e) in
    let class : p.class ≡ q.class = omega (arith, a, b, e) in
    λ j. record { node = node j; class = class j }
