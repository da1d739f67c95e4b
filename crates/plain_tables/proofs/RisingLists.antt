-- Lists whose keys rise: put together, and what single elements leave of them.
use Rattle.std.proofs.Common.{◌≡◌, ◌⊎◌, inl, inr, ℕ, ◌<◌, cond, List, [], ◌∷◌, ◌++◌, map, Contains, refl, sym, ap, ◌∙◌, subst, arith}
use Rattle.std.specs.Prelude.{◌==◌, flat_map}
use Rattle.std.specs.List.{AllByRecursion}
use Rattle.std.specs.List.Sorted.{IsStrictlySortedBy}
use Rattle.std.specs.declared.cmp.Ordering.{Ordering}
use Rattle.std.specs.declared.cmp.Ordering.TheVariants.{Less, Equal, Greater}
use Rattle.std.specs.Ordering.{nat_cmp}
use Rattle.std.proofs.lemmas.Bool.{lt-ltb, le-ltb, eq-eqb}
use Rattle.meaning.proofs.Membership.{contains_here, contains_there}
use Rattle.table_json.specs.Tables.{Rise}

-- Numbers

pub is_less : (m n : ℕ) → m < n → nat_cmp m n ≡ Less
is_less m n h = ap (λ b. cond b Less (cond (m == n) Equal Greater)) (lt-ltb m n h)

pub is_same : (n : ℕ) → nat_cmp n n ≡ Equal
is_same n =
    ap (λ b. cond b Less (cond (n == n) Equal Greater)) (le-ltb n n (omega arith))
    ∙ ap (λ b. cond b Equal Greater) (eq-eqb n n refl)

-- One list behind another

module _ {K : Type 0} (cmp : K → K → Ordering) where
  pub all_below : (x : K) (ys : List K) → ((y : K) → Contains ys y → cmp x y ≡ Less)
      → AllByRecursion (λ y. cmp x y ≡ Less) ys
  all_below x [] h = tt
  all_below x (y ∷ ys) h = (h y (contains_here y ys), all_below x ys λ z k. h z (contains_there y z ys k))

  below_both : (x : K) (ys zs : List K) → AllByRecursion (λ y. cmp x y ≡ Less) ys
      → AllByRecursion (λ y. cmp x y ≡ Less) zs
      → AllByRecursion (λ y. cmp x y ≡ Less) (ys ++ zs)
  below_both x [] zs h k = k
  below_both x (y ∷ ys) zs h k = (h.0, below_both x ys zs h.1 k)

  pub rise_both : (xs ys : List K) → IsStrictlySortedBy cmp xs → IsStrictlySortedBy cmp ys
      → ((x y : K) → Contains xs x → Contains ys y → cmp x y ≡ Less)
      → IsStrictlySortedBy cmp (xs ++ ys)
  unfolding IsStrictlySortedBy
  rise_both [] ys h k across = k
  rise_both (x ∷ xs) ys h k across = (
    below_both x xs ys h.0 (all_below x ys λ y there. across x y (contains_here x xs) there),
    rise_both xs ys h.1 k λ z y there. across z y (contains_there x z xs there),
  )

-- Each element leaves nothing, or one with the same key

module _ {A B K : Type 0} (cmp : K → K → Ordering) (key : A → K) (seen : B → K) where
  -- nothing is left of the element, or one with its key
  abbrev pub IsThinned : A → List B → Type 0
  IsThinned a bs = (bs ≡ []) ⊎ ((b : B) × (bs ≡ b ∷ []) × (seen b ≡ key a))

  module _ (left : A → List B) (thinned : (a : A) → IsThinned a (left a)) where
    below_left : (x : K) (all : List A) → AllByRecursion (λ k. cmp x k ≡ Less) (map key all)
        → AllByRecursion (λ k. cmp x k ≡ Less) (map seen (flat_map left all))
    below_left x [] h = tt
    below_left x (a ∷ all) h = by (left a) (thinned a) (below_left x all h.1)
      where
        by : (bs : List B) → IsThinned a bs → AllByRecursion (λ k. cmp x k ≡ Less) (map seen (flat_map left all))
            → AllByRecursion (λ k. cmp x k ≡ Less) (map seen (bs ++ flat_map left all))
        by bs (inl none) rest =
            subst (λ l. AllByRecursion (λ k. cmp x k ≡ Less) (map seen (l ++ flat_map left all))) (sym none) rest
        by bs (inr one) rest =
            subst (λ l. AllByRecursion (λ k. cmp x k ≡ Less) (map seen (l ++ flat_map left all))) (sym one.1)
            (ap (cmp x) one.2 ∙ h.0, rest)

    pub rise_left : (all : List A) → Rise cmp key all → Rise cmp seen (flat_map left all)
    unfolding IsStrictlySortedBy
    rise_left [] h = tt
    rise_left (a ∷ all) h = by (left a) (thinned a) (below_left (key a) all h.0) (rise_left all h.1)
      where
        by : (bs : List B) → IsThinned a bs
            → AllByRecursion (λ k. cmp (key a) k ≡ Less) (map seen (flat_map left all))
            → Rise cmp seen (flat_map left all)
            → Rise cmp seen (bs ++ flat_map left all)
        by bs (inl none) below rest = subst (λ l. Rise cmp seen (l ++ flat_map left all)) (sym none) rest
        by bs (inr one) below rest =
            subst (λ l. Rise cmp seen (l ++ flat_map left all)) (sym one.1)
            (subst (λ x. AllByRecursion (λ k. cmp x k ≡ Less) (map seen (flat_map left all))) (sym one.2) below, rest)
