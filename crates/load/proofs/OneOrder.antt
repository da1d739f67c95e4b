-- A list has one stable order, and so given files have one by their names.
use Rattle.std.proofs.Common.{◌≡◌, zero, suc, ◌+◌, ◌⊎◌, inl, inr, Bool, true, false, ◌&&◌, cond, not, List, [], ◌∷◌, refl, sym, ap, ◌∙◌, subst, arith}
use Rattle.std.specs.Prelude.{slice_index_or}
use Rattle.std.specs.List.{filter}
use Rattle.std.specs.List.Sorted.{ties, IsSortedBy, IsStableBy}
use Rattle.std.specs.Cmp.{IsStrictWeakOrder}
use Rattle.std.specs.String.{string_cmp_total}
use Rattle.std.proofs.lemmas.List.Sorted.{ranks_by}
use Rattle.lexer.specs.declared.source.Source.{Source}
use Rattle.load.specs.FilesByName.{comes_before, AreByName}

module _ {X : Type 0} where
  abbrev pub In : X → List X → Type 0
  In z [] = ⊥
  In z (y ∷ ys) = (y ≡ z) ⊎ In z ys

  abbrev first_or : X → List X → X
  first_or d [] = d
  first_or d (x ∷ xs) = x

  abbrev rest_of : List X → List X
  rest_of [] = []
  rest_of (x ∷ xs) = xs

  passes : (p : X → Bool) (x : X) (xs : List X) → p x ≡ true → filter p (x ∷ xs) ≡ x ∷ filter p xs
  passes p x xs e = ap (λ b. cond b (x ∷ filter p xs) (filter p xs)) e

  from_filter : (p : X → Bool) (z : X) (xs : List X) → In z (filter p xs) → In z xs
  from_filter p z [] h = h
  from_filter p z (x ∷ xs) h = by (p x) (from_filter p z xs) h
    where
      by : (b : Bool) → (In z (filter p xs) → In z xs) → In z (cond b (x ∷ filter p xs) (filter p xs)) → In z (x ∷ xs)
      by true rest (inl e) = inl e
      by true rest (inr later) = inr (rest later)
      by false rest h = inr (rest h)

  -- the first that passes one filter is in the other list
  first_there : (p : X → Bool) (x : X) (xs ys : List X) → p x ≡ true → filter p (x ∷ xs) ≡ filter p ys → In x ys
  first_there p x xs ys e same =
      from_filter p x ys (subst (In x) (sym (passes p x xs e) ∙ same) (inl refl))

  without_first : (b : Bool) (x : X) (xs ys : List X) → cond b (x ∷ xs) xs ≡ cond b (x ∷ ys) ys → xs ≡ ys
  without_first true x xs ys e = ap rest_of e
  without_first false x xs ys e = e

  module _ (lt : X → X → Bool) (o : IsStrictWeakOrder lt) where
    not_itself : (x : X) → lt x x ≡ false
    not_itself x = by (lt x x) refl
      where
        by : (b : Bool) → lt x x ≡ b → lt x x ≡ false
        by true e = o.one_way x x e
        by false e = e

    they_tie : (x y : X) → lt x y ≡ false → lt y x ≡ false → ties lt x y ≡ true
    they_tie x y e f = λ i. not (e i) && not (f i)

    pub rest_sorted : (x : X) (xs : List X) → IsSortedBy lt (x ∷ xs) → IsSortedBy lt xs
    rest_sorted x xs s k d low within =
        let e : suc k + 1 ≡ suc (k + 1) = omega arith in
        subst (λ n. lt (slice_index_or (x ∷ xs) n d) (slice_index_or xs k d) ≡ false) e
        (s (suc k) d (omega arith) (omega (arith, within)))

    -- no element comes before the first
    pub least : (x : X) (xs : List X) → IsSortedBy lt (x ∷ xs) → (z : X) → In z (x ∷ xs) → lt z x ≡ false
    least x xs s z (inl e) = subst (λ t. lt t x ≡ false) e (not_itself x)
    least x [] s z (inr later) = absurd later
    least x (y ∷ ys) s z (inr later) =
        o.chain z y x (least y ys (rest_sorted x (y ∷ ys) s) z later) (s zero x (omega arith) (omega arith))

    one_order : (xs ys : List X) → IsSortedBy lt xs → IsSortedBy lt ys
        → ((x : X) → filter (ties lt x) xs ≡ filter (ties lt x) ys)
        → xs ≡ ys
    one_order [] [] s t same = refl
    one_order [] (y ∷ ys) s t same =
        absurd (first_there (ties lt y) y ys [] (they_tie y y (not_itself y) (not_itself y)) (sym (same y)))
    one_order (x ∷ xs) [] s t same =
        absurd (first_there (ties lt x) x xs [] (they_tie x x (not_itself x) (not_itself x)) (same x))
    one_order (x ∷ xs) (y ∷ ys) s t same =
        let own = they_tie x x (not_itself x) (not_itself x) in
        let below = least y ys t x (first_there (ties lt x) x xs (y ∷ ys) own (same x)) in
        let above = least x xs s y (first_there (ties lt y) y ys (x ∷ xs) (they_tie y y (not_itself y) (not_itself y)) (sym (same y))) in
        let first : x ≡ y = ap (first_or x)
        (sym (passes (ties lt x) x xs own) ∙ (same x ∙ passes (ties lt x) y ys (they_tie x y below above))) in
        let rest = one_order xs ys (rest_sorted x xs s) (rest_sorted y ys t) (λ z.
        without_first (ties lt z x) x (filter (ties lt z) xs) (filter (ties lt z) ys)
        (same z ∙ ap (λ w. filter (ties lt z) (w ∷ ys)) (sym first))) in
        λ i. first i ∷ rest i

    -- two stable sorts of one list are one
    pub one_stable_order : (given xs ys : List X) → IsSortedBy lt xs → IsStableBy lt given xs → IsSortedBy lt ys
        → IsStableBy lt given ys
        → xs ≡ ys
    one_stable_order given xs ys s kept t kept_too = one_order xs ys s t (λ x. kept x ∙ sym (kept_too x))

pub by_name_is_one : (given files others : List Source) → AreByName given files → AreByName given others → files ≡ others
by_name_is_one given files others one other =
    one_stable_order comes_before (ranks_by string_cmp_total (λ (s : Source). s.name)) given files others one.sorted one.stable
    other.sorted other.stable
