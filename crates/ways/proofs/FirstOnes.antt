-- The first element of a list that passes a test.
use Rattle.std.proofs.Common.{◌≡◌, ℕ, zero, suc, ◌+◌, ◌≤◌, Bool, true, false, if◌then◌else◌, List, [], ◌∷◌, Some, None, refl, sym, ap, ◌∙◌, true≢false, arith}
use Rattle.std.proofs.lemmas.Option.{none-some, same_Some}
use Rattle.std.specs.Prelude.{slice_get}
use Rattle.ways.specs.Found.{first_from}

module _ {A : Type 0} (test : A → Bool) where
  some_is_none : {m : ℕ} → Some m ≡ None → ⊥
  some_is_none e = none-some _ (sym e)

  pub none_passes : (n : ℕ) (xs : List A)
      → first_from test n xs ≡ None
      → (i : ℕ) (x : A)
      → slice_get xs i ≡ Some x
      → test x ≡ true
      → ⊥
  none_passes n [] e i x there passes = none-some x there
  none_passes n (y ∷ ys) e i x there passes =
      by (λ k d at. none_passes (n + 1) ys d k x at passes) (test y) refl e i there
    where
      by : ((k : ℕ) → first_from test (n + 1) ys ≡ None → slice_get ys k ≡ Some x → ⊥) → (t : Bool) → test y ≡ t
          → (if t then Some n else first_from test (n + 1) ys) ≡ None
          → (i : ℕ)
          → slice_get (y ∷ ys) i ≡ Some x
          → ⊥
      by rest true is e i there = some_is_none e
      by rest false is e zero there = true≢false (sym passes ∙ sym (ap test (same_Some y x there)) ∙ is)
      by rest false is e (suc i) there = rest i e there

  pub record IsFirst (n : ℕ) (xs : List A) (m : ℕ) : Type 0 where
    pub place : ℕ
    pub element : A
    pub is_place : m ≡ n + place
    pub is_there : slice_get xs place ≡ Some element
    pub passes : test element ≡ true
    pub is_first : (j : ℕ) (y : A) → slice_get xs j ≡ Some y → test y ≡ true → place ≤ j

  pub first_is : (n : ℕ) (xs : List A) (m : ℕ) → first_from test n xs ≡ Some m → IsFirst n xs m
  first_is n [] m e = absurd (none-some m e)
  first_is n (x ∷ xs) m e = by (first_is (n + 1) xs m) (test x) refl e
    where
      later : (w : IsFirst (n + 1) xs m) → test x ≡ false → (j : ℕ) (y : A)
          → slice_get (x ∷ xs) j ≡ Some y
          → test y ≡ true
          → suc w.place ≤ j
      later w is zero y there passes = absurd (true≢false (sym passes ∙ sym (ap test (same_Some x y there)) ∙ is))
      later w is (suc j) y there passes = let le = w.is_first j y there passes in omega (arith, le)

      by : (first_from test (n + 1) xs ≡ Some m → IsFirst (n + 1) xs m) → (t : Bool) → test x ≡ t
          → (if t then Some n else first_from test (n + 1) xs) ≡ Some m
          → IsFirst n (x ∷ xs) m
      by rest true is e =
          let same = same_Some n m e in
          record {
            place = 0;
            element = x;
            is_place = omega (arith, same);
            is_there = refl;
            passes = is;
            is_first = λ j y there passes. omega arith;
          }
      by rest false is e =
          let w = rest e in
          let at = w.is_place in
          record {
            place = suc w.place;
            element = w.element;
            is_place = omega (arith, at);
            is_there = w.is_there;
            passes = w.passes;
            is_first = λ j y there passes. later w is j y there passes;
          }
