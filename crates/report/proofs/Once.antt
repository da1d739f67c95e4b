-- What is sorted, each once, by a total order: what its elements say is in that order, and the same is said.
use Rattle.std.proofs.Common.{◌≡◌, List, [], ◌∷◌, map, Contains, AllPairs, sym, ◌∙◌, subst, Bool, true, arith}
use Rattle.std.specs.Ordering.{eq_by_cmp}
use Rattle.std.specs.List.{dedup}
use Rattle.std.specs.List.Sorted.{IsStrictlySortedBy, IsPermutation, IsSorted}
use Rattle.std.specs.Cmp.{IsTotalOrder, IsEquivalence, eq_by_cmp_equiv}
use Rattle.std.specs.declared.cmp.Ordering.TheVariants.{the_data as Ordering, Less}
use Rattle.std.proofs.lemmas.List.Sorted.{Contains-permutation, IsPermutation-sym}
use Rattle.std.proofs.lemmas.List.Kept.{AllPairs-cons, IsStrictlySortedBy-dedup, Any-dedup, Contains-from_dedup}
use Rattle.std.proofs.lemmas.List.Elements.{All-map, All-weaker, All-from_recursion}
use Rattle.report.proofs.Members.{contains_map, contains_unmap}

module _ {X Y : Type 0} (said : X → Y) (cmp : X → X → Ordering) (eq : X → X → Bool) (total : IsTotalOrder cmp)
    (ties : (a b : X) → eq a b ≡ eq_by_cmp cmp a b) where
  equiv : IsEquivalence eq
  equiv = subst IsEquivalence (λ i a b. sym (ties a b) i) (eq_by_cmp_equiv total)

  module _ (Before : Y → Y → Type 0) (before : (a b : X) → cmp a b ≡ Less → Before (said a) (said b)) where
    strictly : (xs : List X) → IsStrictlySortedBy cmp xs → AllPairs Before (map said xs)
    unfolding IsStrictlySortedBy
    strictly [] h = λ i j d l k. absurd (omega (arith, k))
    strictly (x ∷ xs) h =
        AllPairs-cons Before (said x) (map said xs)
        (All-map (Before (said x)) said xs
        (All-weaker (λ y. cmp x y ≡ Less) (λ y. Before (said x) (said y)) (λ y. before x y) xs
        (All-from_recursion (λ y. cmp x y ≡ Less) xs h.0)))
        (strictly xs h.1)

    pub once_in_order : (sorted : List X) → IsSorted cmp sorted → AllPairs Before (map said (dedup eq sorted))
    once_in_order sorted h = strictly _ (IsStrictlySortedBy-dedup total ties sorted h)

  module _ (tied : (a b : X) → eq a b ≡ true → said a ≡ said b) (items sorted : List X)
      (moved : IsPermutation items sorted) where
    pub once_there : (y : Y) → Contains (map said items) y → Contains (map said (dedup eq sorted)) y
    once_there y h =
        let s = contains_unmap said items y h in
        let any = Any-dedup equiv sorted s.0 (Contains-permutation items sorted s.0 moved s.1) in
        let kept = contains_map said (dedup eq sorted) any.1 (any.0, any.2, any.3) in
        subst (λ l. Contains (map said (dedup eq sorted)) l) (sym (tied s.0 any.1 any.4) ∙ s.2) kept

  module _ (items sorted : List X) (moved : IsPermutation items sorted) where
    pub once_from_there : (y : Y) → Contains (map said (dedup eq sorted)) y → Contains (map said items) y
    once_from_there y h =
        let s = contains_unmap said (dedup eq sorted) y h in
        let g = Contains-permutation sorted items s.0 (IsPermutation-sym items sorted moved)
        (Contains-from_dedup eq sorted s.0 s.1) in
        subst (λ l. Contains (map said items) l) s.2 (contains_map said items s.0 g)
