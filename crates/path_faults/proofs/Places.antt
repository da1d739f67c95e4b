-- What the elements of a list give by their places, and tests that some pass.
use Rattle.std.proofs.Common.{◌≡◌, ℕ, zero, suc, ◌+◌, Bool, true, inl, inr, List, [], ◌∷◌, drop, length, get_or, ◌<◌, Some, Contains, refl, sym, ap, ◌∙◌, subst, arith}
use Rattle.std.specs.Prelude.{slice_get}
use Rattle.std.specs.List.{list_any}
use Rattle.std.proofs.lemmas.Bool.{false≢true, or_cases, or_left, or_right}
use Rattle.std.proofs.lemmas.List.{drop_more}
use Rattle.std.proofs.lemmas.Option.{none-some, same_Some, slice_get-get_or}
use Rattle.std.proofs.lemmas.List.Elements.{Contains-append_left, Contains-append_right, Contains-append_cases}
use Rattle.meaning.proofs.Membership.{contains_nil, contains_here, contains_there, contains_cases}
use Rattle.path_faults.specs.FoundFaults.{each_from, any_from}

-- the element at a place, and what is left from there
pub element_at : {A : Type 0} (xs : List A) (i : ℕ) → i < length xs
    → (x : A) × (drop i xs ≡ x ∷ drop (i + 1) xs) × (slice_get xs i ≡ Some x)
element_at [] i within = absurd (omega (arith, within))
element_at (y ∷ ys) i within =
    (get_or (y ∷ ys) i y, drop_more (y ∷ ys) i y within, slice_get-get_or (y ∷ ys) i y within)

module _ {A : Type 0} where
  pub place_of : (xs : List A) (x : A) → Contains xs x → (i : ℕ) × (slice_get xs i ≡ Some x)
  place_of [] x h = absurd (contains_nil x h)
  place_of (y ∷ ys) x h =
      elim (contains_cases y x ys h) [
        | inl same ↦ (0, ap Some same)
        | inr later ↦ let w = place_of ys x later in (suc w.0, w.1)
      ]

  pub contains_at : (xs : List A) (i : ℕ) (x : A) → slice_get xs i ≡ Some x → Contains xs x
  contains_at [] i x e = absurd (none-some x e)
  contains_at (y ∷ ys) zero x e = subst (Contains (y ∷ ys)) (same_Some y x e) (contains_here y ys)
  contains_at (y ∷ ys) (suc i) x e = contains_there y x ys (contains_at ys i x e)

  -- some element passes

  pub any_witness : (test : A → Bool) (xs : List A) → list_any test xs ≡ true
      → (x : A) × Contains xs x × (test x ≡ true)
  any_witness test [] e = absurd (false≢true e)
  any_witness test (x ∷ xs) e =
      elim (or_cases (test x) (list_any test xs) e) [
        | inl here ↦ (x, contains_here x xs, here)
        | inr later ↦ let w = any_witness test xs later in (w.0, contains_there x w.0 xs w.1, w.2)
      ]

  pub any_holds : (test : A → Bool) (xs : List A) (x : A) → Contains xs x → test x ≡ true → list_any test xs ≡ true
  any_holds test [] x h e = absurd (contains_nil x h)
  any_holds test (y ∷ ys) x h e =
      elim (contains_cases y x ys h) [
        | inl same ↦ or_left (test y) (list_any test ys) (ap test same ∙ e)
        | inr later ↦ or_right (test y) (list_any test ys) (any_holds test ys x later e)
      ]

  record PassesFrom (test : ℕ → A → Bool) (n : ℕ) (xs : List A) : Type 0 where
    place : ℕ
    element : A
    is_there : slice_get xs place ≡ Some element
    passes : test (n + place) element ≡ true

  passes_from : (test : ℕ → A → Bool) (n : ℕ) (xs : List A) → any_from test n xs ≡ true → PassesFrom test n xs
  passes_from test n [] e = absurd (false≢true e)
  passes_from test n (x ∷ xs) e =
      elim (or_cases (test n x) (any_from test (n + 1) xs) e) [
        | inl here ↦
            let same : n ≡ n + 0 = omega arith in
            record { place = 0; element = x; is_there = refl; passes = subst (λ k. test k x ≡ true) same here }
        | inr later ↦
            let w = passes_from test (n + 1) xs later in
            let same : (n + 1) + w.place ≡ n + suc w.place = omega arith in
            record {
              place = suc w.place;
              element = w.element;
              is_there = w.is_there;
              passes = subst (λ k. test k w.element ≡ true) same w.passes;
            }
      ]

  any_there : (test : ℕ → A → Bool) (n : ℕ) (xs : List A) (i : ℕ) (x : A) → slice_get xs i ≡ Some x
      → test (n + i) x ≡ true → any_from test n xs ≡ true
  any_there test n [] i x e h = absurd (none-some x e)
  any_there test n (y ∷ ys) zero x e h =
      let same : n + 0 ≡ n = omega arith in
      or_left (test n y) (any_from test (n + 1) ys)
      (ap (test n) (same_Some y x e) ∙ subst (λ k. test k x ≡ true) same h)
  any_there test n (y ∷ ys) (suc i) x e h =
      let same : n + suc i ≡ (n + 1) + i = omega arith in
      or_right (test n y) (any_from test (n + 1) ys)
      (any_there test (n + 1) ys i x e (subst (λ k. test k x ≡ true) same h))

  -- the element of a place passes
  pub record PassesAt (test : ℕ → A → Bool) (xs : List A) : Type 0 where
    pub place : ℕ
    pub element : A
    pub is_there : slice_get xs place ≡ Some element
    pub passes : test place element ≡ true

  pub passes_at : (test : ℕ → A → Bool) (xs : List A) → any_from test 0 xs ≡ true → PassesAt test xs
  passes_at test xs e =
      let w = passes_from test 0 xs e in
      let same : 0 + w.place ≡ w.place = omega arith in
      record {
        place = w.place;
        element = w.element;
        is_there = w.is_there;
        passes = subst (λ k. test k w.element ≡ true) same w.passes;
      }

  pub any_at : (test : ℕ → A → Bool) (xs : List A) (i : ℕ) (x : A) → slice_get xs i ≡ Some x → test i x ≡ true
      → any_from test 0 xs ≡ true
  any_at test xs i x e h =
      let same : i ≡ 0 + i = omega arith in any_there test 0 xs i x e (subst (λ k. test k x ≡ true) same h)

module _ {A B : Type 0} where
  record GivenFrom (f : ℕ → A → List B) (n : ℕ) (xs : List A) (y : B) : Type 0 where
    place : ℕ
    element : A
    is_there : slice_get xs place ≡ Some element
    gives : Contains (f (n + place) element) y

  given_from : (f : ℕ → A → List B) (n : ℕ) (xs : List A) (y : B) → Contains (each_from f n xs) y → GivenFrom f n xs y
  given_from f n [] y h = absurd (contains_nil y h)
  given_from f n (x ∷ xs) y h =
      elim (Contains-append_cases (f n x) (each_from f (n + 1) xs) y h) [
        | inl here ↦
            let same : n ≡ n + 0 = omega arith in
            record { place = 0; element = x; is_there = refl; gives = subst (λ k. Contains (f k x) y) same here }
        | inr later ↦
            let w = given_from f (n + 1) xs y later in
            let same : (n + 1) + w.place ≡ n + suc w.place = omega arith in
            record {
              place = suc w.place;
              element = w.element;
              is_there = w.is_there;
              gives = subst (λ k. Contains (f k w.element) y) same w.gives;
            }
      ]

  given_there : (f : ℕ → A → List B) (n : ℕ) (xs : List A) (y : B) (i : ℕ) (x : A) → slice_get xs i ≡ Some x
      → Contains (f (n + i) x) y → Contains (each_from f n xs) y
  given_there f n [] y i x e h = absurd (none-some x e)
  given_there f n (z ∷ zs) y zero x e h =
      let same : n + 0 ≡ n = omega arith in
      Contains-append_left (f n z) (each_from f (n + 1) zs) y
      (subst (λ w. Contains (f n w) y) (sym (same_Some z x e)) (subst (λ k. Contains (f k x) y) same h))
  given_there f n (z ∷ zs) y (suc i) x e h =
      let same : n + suc i ≡ (n + 1) + i = omega arith in
      Contains-append_right (f n z) (each_from f (n + 1) zs) y
      (given_there f (n + 1) zs y i x e (subst (λ k. Contains (f k x) y) same h))

  -- the element of a place gives it
  pub record GivenAt (f : ℕ → A → List B) (xs : List A) (y : B) : Type 0 where
    pub place : ℕ
    pub element : A
    pub is_there : slice_get xs place ≡ Some element
    pub gives : Contains (f place element) y

  pub given_at : (f : ℕ → A → List B) (xs : List A) (y : B) → Contains (each_from f 0 xs) y → GivenAt f xs y
  given_at f xs y h =
      let w = given_from f 0 xs y h in
      let same : 0 + w.place ≡ w.place = omega arith in
      record {
        place = w.place;
        element = w.element;
        is_there = w.is_there;
        gives = subst (λ k. Contains (f k w.element) y) same w.gives;
      }

  pub gives_at : (f : ℕ → A → List B) (xs : List A) (y : B) (i : ℕ) (x : A) → slice_get xs i ≡ Some x
      → Contains (f i x) y → Contains (each_from f 0 xs) y
  gives_at f xs y i x e h =
      let same : i ≡ 0 + i = omega arith in given_there f 0 xs y i x e (subst (λ k. Contains (f k x) y) same h)
