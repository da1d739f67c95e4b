-- Names in the order of their bytes, each once, and that each function that is known has its name among those that are
-- declared.
use Rattle.std.proofs.Common.{◌≡◌, ◌⊎◌, inl, inr, ℕ, ◌+◌, Bool, true, false, ◌&&◌, List, [], ◌∷◌, length, Contains, Option, Some, None, is_some, true≢false, refl, sym, ◌∙◌, subst, arith}
use Rattle.std.specs.Prelude.{flat_map, ◌==◌, if◌then◌else◌, nat_eq}
use Rattle.std.specs.Borrow.{Bor}
use Rattle.std.specs.List.{dedup, AllByRecursion}
use Rattle.std.specs.List.Sorted.{IsStrictlySortedBy, IsPermutation, IsSorted}
use Rattle.std.specs.Ordering.{on, eq_by_cmp}
use Rattle.std.specs.Cmp.{IsTotalOrder, IsEquivalence}
use Rattle.std.specs.Cmp.Lexicographic.{on_texts, on_texts_equal, texts_ties, same_text, pointwise}
use Rattle.std.specs.Str.{bytes_eq}
use Rattle.std.specs.declared.cmp.Ordering.TheVariants.{the_data as Ordering, Less}
use Rattle.std.proofs.lemmas.Bool.{and_parts, eqb-true}
use Rattle.std.proofs.lemmas.List.Sorted.{Contains-permutation}
use Rattle.std.proofs.lemmas.List.Kept.{IsStrictlySortedBy-dedup, Any-dedup}
use Rattle.std.proofs.lemmas.List.Elements.{Contains-append_left, Contains-append_right}
use Rattle.std.proofs.lemmas.Slice.Eq.{bytes_eq-Decides}
use Rattle.meaning.proofs.Membership.{contains_here, contains_map, contains_unmap}
use Rattle.meaning.specs.FunctionFacts.{FunctionFacts, Meanings, function_facts, facts_in, facts_from, package_facts}
use Rattle.meaning.specs.OuterBlocks.{can_be_meant, or_else}
use Rattle.tree.specs.declared.edition.Edition.{Edition}
use Rattle.tree.specs.Syntax.{SourceFile, TopLevelDeclaration, function_declaration, general_declaration}
use Rattle.imports.specs.Views.{text_views}
use Rattle.table_json.specs.Tables.{by_bytes}
use Rattle.plain_tables.specs.Tables.{declared_name, declared_names, is_none_of, AreInOrder}

pub none_is : {A : Type 0} (b : Bool) (xs : List A) → b ≡ (length xs == 0) → b ≡ is_none_of xs
none_is true [] h = refl
none_is false [] h = h
none_is true (x ∷ xs) h = let e = eqb-true (length (x ∷ xs)) 0 (sym h) in absurd (omega (arith, e))
none_is false (x ∷ xs) h = refl

-- Texts

abbrev text_cmp : Bor (List ℕ) → Bor (List ℕ) → Ordering
text_cmp = on (λ t. t.now) by_bytes

abbrev text_eq : Bor (List ℕ) → Bor (List ℕ) → Bool
text_eq = on (λ t. t.now) (pointwise nat_eq)

text_total : IsTotalOrder text_cmp
text_total = on_texts (λ t. t.now)

text_ties : (a b : Bor (List ℕ)) → text_eq a b ≡ eq_by_cmp text_cmp a b
text_ties a b = texts_ties a.now b.now

text_equiv : IsEquivalence text_eq
text_equiv = on_texts_equal (λ t. t.now)

below_all : (x : Bor (List ℕ)) (xs : List (Bor (List ℕ))) → AllByRecursion (λ y. text_cmp x y ≡ Less) xs
    → AllByRecursion (λ y. by_bytes x.now y ≡ Less) (text_views xs)
below_all x [] h = tt
below_all x (y ∷ ys) h = (h.0, below_all x ys h.1)

views_rise : (xs : List (Bor (List ℕ))) → IsStrictlySortedBy text_cmp xs → IsStrictlySortedBy by_bytes (text_views xs)
unfolding IsStrictlySortedBy
views_rise [] h = tt
views_rise (x ∷ xs) h = (below_all x xs h.0, views_rise xs h.1)

pub names_so : (declared : List (List ℕ)) (items sorted once : List (Bor (List ℕ))) → text_views items ≡ declared
    → IsPermutation items sorted
    → IsSorted text_cmp sorted
    → once ≡ dedup text_eq sorted
    → AreInOrder declared (text_views once)
names_so declared items sorted once are moved ordered is = record {
  rise =
      subst (λ l. IsStrictlySortedBy by_bytes (text_views l)) (sym is)
      (views_rise (dedup text_eq sorted) (IsStrictlySortedBy-dedup text_total text_ties sorted ordered));
  are_there = λ name h.
      let s = contains_unmap (λ t. t.now) items name (subst (λ l. Contains l name) (sym are) h) in
      let any = Any-dedup text_equiv sorted s.0 (Contains-permutation items sorted s.0 moved s.1) in
      subst (λ l. Contains (text_views l) name) (sym is)
      (subst (Contains (text_views (dedup text_eq sorted)))
      (sym (same_text s.0.now any.1.now (sym any.4)) ∙ s.2)
      (contains_map (λ t. t.now) (dedup text_eq sorted) any.1 (any.0, any.2, any.3)));
}

-- Known functions are declared

module _ (name : List ℕ) (edition : Edition) where
  -- the function of a declaration that is known
  known_in : (means : Meanings) (ds : List TopLevelDeclaration) → is_some (facts_in edition means name ds) ≡ true
      → Contains (flat_map declared_name ds) name
  known_in means [] e = absurd (true≢false (sym e))
  known_in means (general_declaration d ∷ ds) e = known_in means ds e
  known_in means (function_declaration f ∷ ds) e =
      by (can_be_meant f && bytes_eq f.name.text name) refl e (known_in means ds)
    where
      by : (b : Bool) → (can_be_meant f && bytes_eq f.name.text name) ≡ b
          → is_some (facts_in edition means name (function_declaration f ∷ ds)) ≡ true
          → (is_some (facts_in edition means name ds) ≡ true → Contains (flat_map declared_name ds) name)
          → Contains (f.name.text ∷ flat_map declared_name ds) name
      by true test e rest =
          subst (Contains (f.name.text ∷ flat_map declared_name ds))
          ((bytes_eq-Decides f.name.text name).0 (and_parts _ _ test).1)
          (contains_here f.name.text (flat_map declared_name ds))
      by false test e rest =
          Contains-append_right (f.name.text ∷ []) (flat_map declared_name ds) name (rest (subst (λ b. is_some (if b then Some (function_facts edition means f) else facts_in edition means name ds) ≡ true) test e))

  either_known : (a b : Option FunctionFacts) → is_some (or_else a b) ≡ true
      → (is_some a ≡ true) ⊎ (is_some b ≡ true)
  either_known (Some x) b e = inl refl
  either_known None b e = inr e

  known_from : (means : ℕ → Meanings) (n : ℕ) (fs : List SourceFile) → is_some (facts_from edition means name n fs) ≡ true
      → Contains (declared_names fs) name
  known_from means n [] e = absurd (true≢false (sym e))
  known_from means n (f ∷ fs) e =
      elim (either_known (facts_in edition (means n) name f.declarations) (facts_from edition means name (n + 1) fs) e) [
        | inl h ↦ Contains-append_left (flat_map declared_name f.declarations) (declared_names fs) name (known_in (means n) f.declarations h)
        | inr h ↦ Contains-append_right (flat_map declared_name f.declarations) (declared_names fs) name (known_from means (n + 1) fs h)
      ]

  pub known_is_declared : (means : ℕ → Meanings) (fs : List SourceFile) → is_some (package_facts edition means fs name) ≡ true
      → Contains (declared_names fs) name
  known_is_declared means fs e = known_from means 0 fs e
