-- The ranks of the packages of the examples are those of an order.
use Rattle.std.proofs.Common.{◌≡◌, ℕ, zero, suc, ◌<◌, ◌≤◌, true, List, [], ◌∷◌, Contains, Some, is_some, refl, sym, subst, arith, length, slice_get}
use Rattle.std.proofs.lemmas.Option.{same_Some}
use Rattle.imports.specs.Ranks.{Package, Imports, Chain, ends, goes_on, HasRank, IsOrder}
use Rattle.board.specs.Examples.{package_a, package_b, two, rank_of_two}
use Rattle.board.specs.ThreeWorkers.{alone, three, rank_of_three}
use Rattle.board.proofs.Lists.{none_in}

-- where each package imports earlier ones alone, no chain meets a package twice
module _ (packages : List Package) (earlier : (i j : ℕ) → Imports packages i j → j < i) where
  not_later : (i j : ℕ) → Chain packages i j → j ≤ i
  not_later i j ends = omega arith
  not_later i j (goes_on {j = m} h c) =
      let less = earlier i m h in
      let rest = not_later m j c in
      omega (arith, less, rest)

  has_rank : (i : ℕ) → HasRank packages i
  has_rank i j k before h after =
      let less = earlier j k h in
      let back = not_later k j after in
      omega (arith, less, back)

pub a_imports_none : (j : ℕ) → Imports two 0 j → ⊥
a_imports_none j h =
    let same : package_a ≡ h.importer = same_Some package_a h.importer h.is_importer in
    let P : Package → Type 0 = λ p. Contains p.imports h.imported.path in
    let there : Contains [] h.imported.path = subst P (sym same) h.names in
    none_in h.imported.path there

only_one : (x y : List ℕ) → Contains (x ∷ []) y → x ≡ y
only_one x y (zero, low, e) = e
only_one x y (suc k, low, e) = absurd (omega (arith, low))

pub b_imports_a : (j : ℕ) → Imports two 1 j → j ≡ 0
b_imports_a j h =
    let same : package_b ≡ h.importer = same_Some package_b h.importer h.is_importer in
    let P : Package → Type 0 = λ p. Contains p.imports h.imported.path in
    let there : Contains ((97 ∷ []) ∷ []) h.imported.path = subst P (sym same) h.names in
    let low = h.is_first 0 package_a refl (only_one (97 ∷ []) h.imported.path there) in
    omega (arith, low)

two_earlier : (i j : ℕ) → Imports two i j → j < i
two_earlier zero j h = absurd (a_imports_none j h)
two_earlier (suc zero) j h = (let first = b_imports_a j h in omega (arith, first))
two_earlier (suc (suc i)) j h = (let e = h.is_importer in cc)

two_first : (i j r : ℕ) → Imports two i j → rank_of_two i ≡ Some r → (q : ℕ) × (rank_of_two j ≡ Some q) × (q < r)
two_first zero j r h e = absurd (a_imports_none j h)
two_first (suc zero) j r h e =
    (0, subst (λ k. rank_of_two k ≡ Some 0) (sym (b_imports_a j h)) refl, subst (λ k. 0 < k) (same_Some 1 r e) (omega arith))
two_first (suc (suc i)) j r h e = cc

two_ranked : (i : ℕ) → is_some (rank_of_two i) ≡ true → i < length two
two_ranked zero e = omega arith
two_ranked (suc zero) e = omega arith
two_ranked (suc (suc i)) e = cc

two_have : (i : ℕ) → i < length two → is_some (rank_of_two i) ≡ true
two_have zero low = refl
two_have (suc zero) low = refl
two_have (suc (suc i)) low = absurd (omega (arith, low))

two_at : (i r : ℕ) → rank_of_two i ≡ Some r → slice_get {X = ℕ} (0 ∷ 1 ∷ []) r ≡ Some i
two_at zero r e = subst (λ k. slice_get {X = ℕ} (0 ∷ 1 ∷ []) k ≡ Some 0) (same_Some 0 r e) refl
two_at (suc zero) r e = subst (λ k. slice_get {X = ℕ} (0 ∷ 1 ∷ []) k ≡ Some 1) (same_Some 1 r e) refl
two_at (suc (suc i)) r e = cc

two_of : (i r : ℕ) → slice_get {X = ℕ} (0 ∷ 1 ∷ []) r ≡ Some i → rank_of_two i ≡ Some r
two_of i zero e = subst (λ k. rank_of_two k ≡ Some 0) (same_Some 0 i e) refl
two_of i (suc zero) e = subst (λ k. rank_of_two k ≡ Some 1) (same_Some 1 i e) refl
two_of i (suc (suc r)) e = cc

pub two_are_ordered : IsOrder two rank_of_two (0 ∷ 1 ∷ [])
two_are_ordered = record {
  ranks = λ i. (λ e. (two_ranked i e, has_rank two two_earlier i), λ h. two_have i h.0);
  imports_first = two_first;
  places = λ i r. (two_at i r, two_of i r);
}

imports_of_none : (path : List ℕ) (importer : Package) (name : List ℕ) → alone path ≡ importer → Contains importer.imports name → ⊥
imports_of_none path importer name same names =
    let P : Package → Type 0 = λ p. Contains p.imports name in
    none_in name (subst P (sym same) names)

pub none_imports : (i j : ℕ) → Imports three i j → ⊥
none_imports zero j h =
    imports_of_none (97 ∷ []) h.importer h.imported.path (same_Some (alone (97 ∷ [])) h.importer h.is_importer) h.names
none_imports (suc zero) j h =
    imports_of_none (98 ∷ []) h.importer h.imported.path (same_Some (alone (98 ∷ [])) h.importer h.is_importer) h.names
none_imports (suc (suc zero)) j h =
    imports_of_none (99 ∷ []) h.importer h.imported.path (same_Some (alone (99 ∷ [])) h.importer h.is_importer) h.names
none_imports (suc (suc (suc i))) j h = (let e = h.is_importer in cc)

three_ranked : (i : ℕ) → is_some (rank_of_three i) ≡ true → i < length three
three_ranked zero e = omega arith
three_ranked (suc zero) e = omega arith
three_ranked (suc (suc zero)) e = omega arith
three_ranked (suc (suc (suc i))) e = cc

three_have : (i : ℕ) → i < length three → is_some (rank_of_three i) ≡ true
three_have zero low = refl
three_have (suc zero) low = refl
three_have (suc (suc zero)) low = refl
three_have (suc (suc (suc i))) low = absurd (omega (arith, low))

three_at : (i r : ℕ) → rank_of_three i ≡ Some r → slice_get {X = ℕ} (0 ∷ 1 ∷ 2 ∷ []) r ≡ Some i
three_at zero r e = subst (λ k. slice_get {X = ℕ} (0 ∷ 1 ∷ 2 ∷ []) k ≡ Some 0) (same_Some 0 r e) refl
three_at (suc zero) r e = subst (λ k. slice_get {X = ℕ} (0 ∷ 1 ∷ 2 ∷ []) k ≡ Some 1) (same_Some 1 r e) refl
three_at (suc (suc zero)) r e = subst (λ k. slice_get {X = ℕ} (0 ∷ 1 ∷ 2 ∷ []) k ≡ Some 2) (same_Some 2 r e) refl
three_at (suc (suc (suc i))) r e = cc

three_of : (i r : ℕ) → slice_get {X = ℕ} (0 ∷ 1 ∷ 2 ∷ []) r ≡ Some i → rank_of_three i ≡ Some r
three_of i zero e = subst (λ k. rank_of_three k ≡ Some 0) (same_Some 0 i e) refl
three_of i (suc zero) e = subst (λ k. rank_of_three k ≡ Some 1) (same_Some 1 i e) refl
three_of i (suc (suc zero)) e = subst (λ k. rank_of_three k ≡ Some 2) (same_Some 2 i e) refl
three_of i (suc (suc (suc r))) e = cc

pub three_are_ordered : IsOrder three rank_of_three (0 ∷ 1 ∷ 2 ∷ [])
three_are_ordered = record {
  ranks = λ i. (
    λ e. (three_ranked i e, has_rank three (λ j k h. absurd (none_imports j k h)) i),
    λ h. three_have i h.0,
  );
  imports_first = λ i j r h e. absurd (none_imports i j h);
  places = λ i r. (three_at i r, three_of i r);
}
