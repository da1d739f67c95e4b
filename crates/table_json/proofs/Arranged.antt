-- Lists in the order of their keys, of which none comes twice.
use Rattle.std.proofs.Common.{◌≡◌, ℕ, zero, suc, ◌+◌, ◌<◌, ◌⊎◌, inl, inr, Bool, true, false, List, [], ◌∷◌, map, length, get_or, IsPermutation, refl, sym, ap, subst, ◌∙◌, add-one, arith}
use Rattle.std.proofs.lemmas.Cmp.{eq_by_cmp_equiv}
use Rattle.std.proofs.lemmas.List.Elements.{All-nil, All-cons, All-tail}
use Rattle.std.proofs.lemmas.List.Sorted.{IsPermutation-sym, IsPermutation-trans, IsPermutation-map, All-permutation}
use Rattle.std.proofs.lemmas.Map.Keys.{IsDistinct-from_sorted, IsDistinct-IsPermutation}
use Rattle.std.specs.Cmp.{IsTotalOrder}
use Rattle.std.specs.declared.cmp.Ordering.{Ordering}
use Rattle.std.specs.declared.cmp.Ordering.TheVariants.{Less, Equal, Greater}
use Rattle.std.specs.List.{All, AllAdjacentBelow, AllByRecursion, IsAllAdjacentAnswer, IsDistinct}
use Rattle.std.specs.List.Sorted.{IsSortedByKey, IsStrictlySortedBy}
use Rattle.std.specs.Ordering.{is_lt, eq_by_cmp, ordering_reverse}
use Rattle.table_json.specs.Tables.{Rise, IsArranged}

is_less : (o : Ordering) → true ≡ is_lt o → o ≡ Less
is_less Less e = refl
is_less Equal e = absurd (cc)
is_less Greater e = absurd (cc)

is_equal : (o : Ordering) → is_lt (ordering_reverse o) ≡ false → false ≡ is_lt o → o ≡ Equal
is_equal Less e h = absurd (cc)
is_equal Equal e h = refl
is_equal Greater e h = absurd (cc)

never_below_itself : (o : Ordering) → o ≡ ordering_reverse o → o ≡ Less → ⊥
never_below_itself Less e h = cc
never_below_itself Equal e h = cc
never_below_itself Greater e h = cc

not_both_below : (o p : Ordering) → o ≡ ordering_reverse p → o ≡ Less → p ≡ Less → ⊥
not_both_below o Less e h k = cc
not_both_below o Equal e h k = cc
not_both_below o Greater e h k = cc

-- Members

abbrev In : {A : Type 0} → A → List A → Type 0
In a [] = ⊥
In a (x ∷ xs) = (a ≡ x) ⊎ In a xs

each_of : {A : Type 0} (P : A → Type 0) (xs : List A) → ((a : A) → In a xs → P a) → All P xs
each_of P [] h = All-nil P
each_of P (x ∷ xs) h = All-cons P x xs (h x (inl refl)) (each_of P xs λ a i. h a (inr i))

at_member : {A : Type 0} (P : A → Type 0) (xs : List A) → All P xs → (a : A) → In a xs → P a
at_member P [] h a i = absurd i
at_member P (x ∷ xs) h a (inl is) = subst P (sym is) (h 0 x (omega arith))
at_member P (x ∷ xs) h a (inr i) = at_member P xs (All-tail P x xs h) a i

-- what is a member stays one
member_of_permutation : {A : Type 0} (xs ys : List A) → IsPermutation xs ys → (a : A) → In a ys → In a xs
member_of_permutation xs ys same =
    at_member (λ a. In a xs) ys (All-permutation (λ a. In a xs) xs ys same (each_of (λ a. In a xs) xs λ a i. i))

pub each_by_recursion : {A : Type 0} (P : A → Type 0) (xs : List A) → ((a : A) → In a xs → P a) → AllByRecursion P xs
each_by_recursion P [] h = tt
each_by_recursion P (x ∷ xs) h = (h x (inl refl), each_by_recursion P xs λ a i. h a (inr i))

at_member_by_recursion : {A : Type 0} (P : A → Type 0) (xs : List A) → AllByRecursion P xs → (a : A) → In a xs → P a
at_member_by_recursion P [] h a i = absurd i
at_member_by_recursion P (x ∷ xs) h a (inl is) = subst P (sym is) h.0
at_member_by_recursion P (x ∷ xs) h a (inr i) = at_member_by_recursion P xs h.1 a i

-- what holds of each still does in another order
pub each_permuted : {A : Type 0} (P : A → Type 0) (xs ys : List A) → IsPermutation xs ys → AllByRecursion P xs
    → AllByRecursion P ys
each_permuted P xs ys same h =
    each_by_recursion P ys λ a i. at_member_by_recursion P xs h a (member_of_permutation xs ys same a i)

module _ {A K : Type 0} {cmp : K → K → Ordering} (total : IsTotalOrder cmp) (key : A → K) where
  -- Neighbours that rise

  above : (x y : A) (zs : List A) → cmp (key x) (key y) ≡ Less → AllByRecursion (λ k. cmp (key y) k ≡ Less) (map key zs)
      → AllByRecursion (λ k. cmp (key x) k ≡ Less) (map key zs)
  above x y [] less h = tt
  above x y (z ∷ zs) less h = (total.trans (key x) (key y) (key z) less h.0, above x y zs less h.1)

  rise_of_steps : (xs : List A)
      → ((k : ℕ) (d : A) → suc k < length xs → cmp (key (get_or xs k d)) (key (get_or xs (suc k) d)) ≡ Less)
      → Rise cmp key xs
  unfolding IsStrictlySortedBy
  rise_of_steps [] h = tt
  rise_of_steps (x ∷ []) h = (tt, tt)
  rise_of_steps (x ∷ y ∷ zs) h =
      let rest = rise_of_steps (y ∷ zs) (λ k d within. h (suc k) d (omega arith)) in
      let first : cmp (key x) (key y) ≡ Less = h 0 x (omega arith) in
      ((first, above x y zs first rest.0), rest)

  pub rise_of_adjacent : (xs : List A)
      → AllAdjacentBelow (λ x y. true ≡ is_lt (cmp (key x) (key y))) xs (length xs)
      → Rise cmp key xs
  rise_of_adjacent xs h =
      rise_of_steps xs λ k d within.
      is_less _ (h k d (omega arith) ∙ ap (λ m. is_lt (cmp (key (get_or xs k d)) (key (get_or xs m d)))) (add-one k))

  -- Neighbours of one key

  not_distinct : (xs : List A) (k : ℕ) → suc k < length xs
      → ((d : A) → cmp (key (get_or xs k d)) (key (get_or xs (suc k) d)) ≡ Equal)
      → IsDistinct (eq_by_cmp cmp) (map key xs)
      → ⊥
  unfolding IsDistinct
  not_distinct [] k within same h = omega arith
  not_distinct (x ∷ []) k within same h = omega arith
  not_distinct (x ∷ y ∷ zs) zero within same h = let is : cmp (key x) (key y) ≡ Equal = same x in cc (h.0.0, is)
  not_distinct (x ∷ y ∷ zs) (suc k) within same h = not_distinct (y ∷ zs) k (omega arith) same h.1

  pub comes_twice : (sorted : List A) → IsSortedByKey key cmp sorted
      → (k : ℕ) × (k + 1 < length sorted)
      × ((d : A) → false ≡ is_lt (cmp (key (get_or sorted k d)) (key (get_or sorted (k + 1) d))))
      → IsDistinct (eq_by_cmp cmp) (map key sorted)
      → ⊥
  comes_twice sorted up twice =
      let k = twice.0 in
      let within : k + 1 < length sorted = twice.1 in
      let equal = λ (d : A).
      is_equal (cmp (key (get_or sorted k d)) (key (get_or sorted (suc k) d)))
      (ap is_lt (sym (total.antisymm (key (get_or sorted (suc k) d)) (key (get_or sorted k d))))
      ∙ (ap (λ m. is_lt (cmp (key (get_or sorted m d)) (key (get_or sorted k d)))) (sym (add-one k))
      ∙ up k d (omega arith) within))
      (twice.2 d ∙ ap (λ m. is_lt (cmp (key (get_or sorted k d)) (key (get_or sorted m d)))) (add-one k)) in
      not_distinct sorted k (omega arith) equal

  pub none_arranged : (given sorted : List A) → IsPermutation given sorted → IsSortedByKey key cmp sorted
      → (k : ℕ) × (k + 1 < length sorted)
      × ((d : A) → false ≡ is_lt (cmp (key (get_or sorted k d)) (key (get_or sorted (k + 1) d))))
      → (keys : List K)
      → IsPermutation (map key given) keys
      → IsStrictlySortedBy cmp keys
      → ⊥
  none_arranged given sorted same up twice keys arranged rise =
      let moved = IsPermutation-trans keys (map key given) (map key sorted) (IsPermutation-sym _ _ arranged)
      (IsPermutation-map key given sorted same) in
      comes_twice sorted up twice
      (IsDistinct-IsPermutation (eq_by_cmp cmp) (eq_by_cmp_equiv total).symm keys (map key sorted) moved
      (IsDistinct-from_sorted cmp keys rise))

  -- There is one order

  below_members : (x : A) (ys : List A) → AllByRecursion (λ k. cmp (key x) k ≡ Less) (map key ys) → (a : A) → In a ys
      → cmp (key x) (key a) ≡ Less
  below_members x [] h a i = absurd i
  below_members x (y ∷ ys) h a (inl is) = ap (λ z. cmp (key x) (key z)) is ∙ h.0
  below_members x (y ∷ ys) h a (inr i) = below_members x ys h.1 a i

  -- the rest of a list has the rest of another's members, where both begin alike
  member_behind : (x y : A) (xs ys : List A) → x ≡ y → AllByRecursion (λ k. cmp (key y) k ≡ Less) (map key ys)
      → ((a : A) → In a (y ∷ ys) → In a (x ∷ xs))
      → (a : A)
      → In a ys
      → In a xs
  member_behind x y xs ys same below within a i = by (within a (inr i))
    where
      by : In a (x ∷ xs) → In a xs
      by (inl is) =
          absurd (never_below_itself (cmp (key y) (key y)) (total.antisymm (key y) (key y))
          (ap (λ z. cmp (key y) (key z)) (sym same ∙ sym is) ∙ below_members y ys below a i))
      by (inr j) = j

  same_members : (xs ys : List A) → Rise cmp key xs → Rise cmp key ys → ((a : A) → In a xs → In a ys)
      → ((a : A) → In a ys → In a xs)
      → xs ≡ ys
  unfolding IsStrictlySortedBy
  same_members [] [] up up' there back = refl
  same_members [] (y ∷ ys) up up' there back = absurd (back y (inl refl))
  same_members (x ∷ xs) [] up up' there back = absurd (there x (inl refl))
  same_members (x ∷ xs) (y ∷ ys) up up' there back =
      let first = by (there x (inl refl)) (back y (inl refl)) in
      let rest = same_members xs ys up.1 up'.1 (member_behind y x ys xs (sym first) up.0 there)
      (member_behind x y xs ys first up'.0 back) in
      λ i. first i ∷ rest i
    where
      by : In x (y ∷ ys) → In y (x ∷ xs) → x ≡ y
      by (inl is) j = is
      by (inr i) (inl is) = sym is
      by (inr i) (inr j) =
          absurd (not_both_below (cmp (key y) (key x)) (cmp (key x) (key y)) (total.antisymm (key y) (key x))
          (below_members y ys up'.0 x i) (below_members x xs up.0 y j))

  pub one_arrangement : (given xs ys : List A) → IsArranged cmp key given xs → IsArranged cmp key given ys → xs ≡ ys
  one_arrangement given xs ys a b =
      let there = IsPermutation-trans ys given xs (IsPermutation-sym given ys b.same) a.same in
      same_members xs ys a.rise b.rise (member_of_permutation ys xs there)
      (member_of_permutation xs ys (IsPermutation-sym ys xs there))

  -- What a sorted list is, by whether its neighbours rise

  pub rise_if : (xs read : List A) (r : Bool) → read ≡ xs
      → IsAllAdjacentAnswer (λ x y b. b ≡ is_lt (cmp (key x) (key y))) read r
      → r ≡ true
      → Rise cmp key xs
  rise_if xs read true is answer so =
      rise_of_adjacent xs (subst (λ ys. AllAdjacentBelow (λ x y. true ≡ is_lt (cmp (key x) (key y))) ys (length ys)) is answer)
  rise_if xs read false is answer so = absurd (cc)

  pub none_if : (given sorted read : List A) (r : Bool) → IsPermutation given sorted → IsSortedByKey key cmp sorted
      → read ≡ sorted
      → IsAllAdjacentAnswer (λ x y b. b ≡ is_lt (cmp (key x) (key y))) read r
      → r ≡ false
      → (keys : List K)
      → IsPermutation (map key given) keys
      → IsStrictlySortedBy cmp keys
      → ⊥
  none_if given sorted read true same up is answer so = absurd (cc)
  none_if given sorted read false same up is answer so =
      none_arranged given sorted same up
      (subst (λ ys. (k : ℕ) × (k + 1 < length ys) × ((d : A) → false ≡ is_lt (cmp (key (get_or ys k d)) (key (get_or ys (k + 1) d))))) is answer)

  pub distinct_if : (xs read : List A) (r : Bool) → read ≡ xs
      → IsAllAdjacentAnswer (λ x y b. b ≡ is_lt (cmp (key x) (key y))) read r
      → r ≡ true
      → IsDistinct (eq_by_cmp cmp) (map key xs)
  distinct_if xs read r is answer so = IsDistinct-from_sorted cmp (map key xs) (rise_if xs read r is answer so)

  pub twice_if : (sorted read : List A) (r : Bool) → IsSortedByKey key cmp sorted → read ≡ sorted
      → IsAllAdjacentAnswer (λ x y b. b ≡ is_lt (cmp (key x) (key y))) read r
      → r ≡ false
      → ¬ IsDistinct (eq_by_cmp cmp) (map key sorted)
  twice_if sorted read true up is answer so = absurd (cc)
  twice_if sorted read false up is answer so =
      comes_twice sorted up
      (subst (λ ys. (k : ℕ) × (k + 1 < length ys) × ((d : A) → false ≡ is_lt (cmp (key (get_or ys k d)) (key (get_or ys (k + 1) d))))) is answer)

  pub not_arranged : (given other : List A)
      → ((keys : List K) → IsPermutation (map key given) keys → IsStrictlySortedBy cmp keys → ⊥)
      → ¬ IsArranged cmp key given other
  not_arranged given other none h = none (map key other) (IsPermutation-map key given other h.same) h.rise

-- Keys of what is seen of a list

keys_seen : {X A K : Type 0} (seen : X → A) (key : A → K) (xs : List X)
    → map key (map seen xs) ≡ map (λ x. key (seen x)) xs
keys_seen seen key [] = refl
keys_seen seen key (x ∷ xs) = λ i. key (seen x) ∷ keys_seen seen key xs i

pub rise_seen : {X A K : Type 0} (cmp : K → K → Ordering) (seen : X → A) (key : A → K) (xs : List X)
    → Rise cmp (λ x. key (seen x)) xs
    → Rise cmp key (map seen xs)
rise_seen cmp seen key xs h = subst (IsStrictlySortedBy cmp) (sym (keys_seen seen key xs)) h

pub none_seen : {X A K : Type 0} (cmp : K → K → Ordering) (seen : X → A) (key : A → K) (given : List X) (other : List A)
    → ((keys : List K) → IsPermutation (map (λ x. key (seen x)) given) keys → IsStrictlySortedBy cmp keys → ⊥)
    → ¬ IsArranged cmp key (map seen given) other
none_seen cmp seen key given other none h =
    none (map key other)
    (subst (λ ks. IsPermutation ks (map key other)) (keys_seen seen key given)
    (IsPermutation-map key (map seen given) other h.same)) h.rise
