-- The keys under which strings stand, in their order.
use Rattle.std.proofs.Common.{◌≡◌, ◌⊎◌, inl, inr, ℕ, zero, suc, ◌<◌, ◌++◌, ◌↔◌, Bool, true, false, if◌then◌else◌, List, [], ◌∷◌, Option, Some, None, is_some, option_and_then, length, get_or, map, Contains, IsPermutation, IsSorted, bytes_eq, true≢false, refl, ap, ◌∙◌, subst, sym, arith}
use Rattle.std.specs.Prelude.{flat_map, nat_eq}
use Rattle.std.specs.Borrow.{Bor}
use Rattle.std.specs.List.{dedup, AllByRecursion}
use Rattle.std.specs.List.Sorted.{IsStrictlySortedBy}
use Rattle.std.specs.Ordering.{nat_cmp, on, eq_by_cmp}
use Rattle.std.specs.Cmp.{IsTotalOrder, IsEquivalence}
use Rattle.std.specs.Cmp.Lexicographic.{slice_cmp, on_texts, on_texts_equal, texts_ties, same_text, pointwise}
use Rattle.std.specs.declared.cmp.Ordering.TheVariants.{the_data as Ordering, Less}
use Rattle.std.proofs.lemmas.List.{length-map, get_or-map, get_or_default}
use Rattle.std.proofs.lemmas.List.Elements.{Contains-append_left, Contains-append_right, Contains-append_cases, Contains-push}
use Rattle.std.proofs.lemmas.List.Sorted.{Contains-permutation, IsPermutation-sym}
use Rattle.std.proofs.lemmas.List.Kept.{IsStrictlySortedBy-dedup, Any-dedup, Contains-from_dedup}
use Rattle.std.proofs.lemmas.Slice.Eq.{bytes_eq-Decides}
use Rattle.unit_config.specs.KeyedTexts.{Keyed, if_told, key_told, last_from, last_of, text_at, text_of, AreKeys}

module _ {X Y : Type 0} (f : X → Y) where
  contains_map : (xs : List X) (x : X) → Contains xs x → Contains (map f xs) (f x)
  contains_map xs x h =
      (h.0, subst (λ n. h.0 < n) (sym (length-map xs f)) h.1, get_or-map f xs h.0 x (f x) h.1 ∙ ap f h.2)

  contains_unmap : (xs : List X) (z : Y) → Contains (map f xs) z → (x : X) × Contains xs x × (f x ≡ z)
  contains_unmap [] z h = absurd (omega (arith, h.1))
  contains_unmap (y ∷ ys) z h =
      let xs = y ∷ ys in
      let lt = subst (λ n. h.0 < n) (length-map xs f) h.1 in
      let x = get_or xs h.0 y in
      (x, (h.0, lt, get_or_default xs h.0 x y lt), sym (get_or-map f xs h.0 y z lt) ∙ h.2)

-- Texts in their order

abbrev by_bytes : List ℕ → List ℕ → Ordering
by_bytes = slice_cmp nat_cmp

abbrev views : List (Bor (List ℕ)) → List (List ℕ)
views = map (λ t. t.now)

abbrev text_cmp : Bor (List ℕ) → Bor (List ℕ) → Ordering
text_cmp = on (λ t. t.now) by_bytes

abbrev text_eq : Bor (List ℕ) → Bor (List ℕ) → Bool
text_eq = on (λ t. t.now) (pointwise nat_eq)

text_total : IsTotalOrder text_cmp
text_total = on_texts (λ t. t.now)

text_ties : (a b : Bor (List ℕ)) → text_eq a b ≡ eq_by_cmp text_cmp a b
text_ties a b = texts_ties a.now b.now

text_equiv : IsEquivalence text_eq
text_equiv = on_texts_equal (λ t. t.now)

below_all : (x : Bor (List ℕ)) (xs : List (Bor (List ℕ))) → AllByRecursion (λ y. text_cmp x y ≡ Less) xs
    → AllByRecursion (λ y. by_bytes x.now y ≡ Less) (views xs)
below_all x [] h = tt
below_all x (y ∷ ys) h = (h.0, below_all x ys h.1)

views_rise : (xs : List (Bor (List ℕ))) → IsStrictlySortedBy text_cmp xs → IsStrictlySortedBy by_bytes (views xs)
unfolding IsStrictlySortedBy
views_rise [] h = tt
views_rise (x ∷ xs) h = (below_all x xs h.0, views_rise xs h.1)

same_texts : (texts sorted once : List (Bor (List ℕ))) → IsPermutation texts sorted → once ≡ dedup text_eq sorted
    → (text : List ℕ)
    → Contains (views once) text ↔ Contains (views texts) text
same_texts texts sorted once moved is text =
    subst (λ l. Contains (views l) text ↔ Contains (views texts) text) (sym is) (
      λ h. (let found = contains_unmap (λ t. t.now) (dedup text_eq sorted) text h in
          let kept = Contains-permutation sorted texts found.0 (IsPermutation-sym texts sorted moved) (Contains-from_dedup text_eq sorted found.0 found.1) in
          subst (Contains (views texts)) found.2 (contains_map (λ t. t.now) texts found.0 kept)),
      λ h. (let found = contains_unmap (λ t. t.now) texts text h in
          let any = Any-dedup text_equiv sorted found.0 (Contains-permutation texts sorted found.0 moved found.1) in
          subst (Contains (views (dedup text_eq sorted)))
          (sym (same_text found.0.now any.1.now (sym any.4)) ∙ found.2)
          (contains_map (λ t. t.now) (dedup text_eq sorted) any.1 (any.0, any.2, any.3))),
    )

-- Keys of entries

module _ (texts : List ℕ → Option (List ℕ)) where
  from_one : (key x : List ℕ) (b : Bool) → is_some (texts x) ≡ b → Contains (if b then x ∷ [] else []) key
      → is_some (texts key) ≡ true
  from_one key x true eq h = subst (λ k. is_some (texts k) ≡ true) (by h.0 h.1 h.2) eq
    where
      by : (n : ℕ) → n < 1 → get_or (x ∷ []) n key ≡ key → x ≡ key
      by zero lt e = e
      by (suc n) lt e = absurd (omega (arith, lt))
  from_one key x false eq h = absurd (omega (arith, h.1))

  -- a string stands under each of the keys
  from_keys : (entries : List Keyed) (key : List ℕ) → Contains (flat_map (key_told texts) entries) key
      → is_some (texts key) ≡ true
  from_keys [] key h = absurd (omega (arith, h.1))
  from_keys (x ∷ xs) key h =
      elim (Contains-append_cases (key_told texts x) (flat_map (key_told texts) xs) key h) [
        | inl one ↦ from_one key x.key (is_some (texts x.key)) refl one
        | inr rest ↦ from_keys xs key rest
      ]

  one_told : (x : List ℕ) (b : Bool) → b ≡ true → Contains (if b then x ∷ [] else []) x
  one_told x true e = Contains-push [] x
  one_told x false e = absurd (true≢false (sym e))

  module _ (key : List ℕ) (told : is_some (texts key) ≡ true) where
    -- the last entry of the key was found before, or its key is one of the keys
    last_told : (found : Option Keyed) (entries : List Keyed) (e : Keyed) → last_from found key entries ≡ Some e
        → (found ≡ Some e) ⊎ Contains (flat_map (key_told texts) entries) key
    last_told found [] e is = inl is
    last_told found (x ∷ xs) e is = by (bytes_eq x.key key) refl (last_told (if bytes_eq x.key key then Some x else found) xs e is)
      where
        by : (b : Bool) → bytes_eq x.key key ≡ b
            → ((if b then Some x else found) ≡ Some e) ⊎ Contains (flat_map (key_told texts) xs) key
            → (found ≡ Some e) ⊎ Contains (flat_map (key_told texts) (x ∷ xs)) key
        by b eq (inr rest) = inr (Contains-append_right (key_told texts x) (flat_map (key_told texts) xs) key rest)
        by true eq (inl s) =
            let same = (bytes_eq-Decides x.key key).0 eq in
            inr (Contains-append_left (key_told texts x) (flat_map (key_told texts) xs) key
            (subst (λ k. Contains (if_told texts k) key) (sym same) (one_told key (is_some (texts key)) told)))
        by false eq (inl s) = inl s

module _ (entries : List Keyed) where
  to_keys : (key : List ℕ) → is_some (text_at entries key) ≡ true
      → Contains (flat_map (key_told (text_at entries)) entries) key
  to_keys key told = by (last_of key entries) refl (told)
    where
      by : (o : Option Keyed) → last_of key entries ≡ o → is_some (option_and_then text_of o) ≡ true
          → Contains (flat_map (key_told (text_at entries)) entries) key
      by None eq some = absurd (true≢false (sym some))
      by (Some e) eq some =
          elim (last_told (text_at entries) key told None entries e eq) [
            | inl none ↦ absurd (cc)
            | inr h ↦ h
          ]

  pub are_keys : (items sorted once : List (Bor (List ℕ)))
      → views items ≡ flat_map (key_told (text_at entries)) entries
      → IsPermutation items sorted
      → IsSorted text_cmp sorted
      → once ≡ dedup text_eq sorted
      → AreKeys (text_at entries) (views once)
  are_keys items sorted once are moved ordered is = record {
    each = λ key.
        let same = same_texts items sorted once moved is key in (
          λ h. from_keys (text_at entries) entries key (subst (λ l. Contains l key) are (same.0 h)),
          λ told. same.1 (subst (λ l. Contains l key) (sym are) (to_keys key told)),
        );
    ascend = subst (λ l. IsStrictlySortedBy by_bytes (views l)) (sym is)
        (views_rise (dedup text_eq sorted) (IsStrictlySortedBy-dedup text_total text_ties sorted ordered));
  }
