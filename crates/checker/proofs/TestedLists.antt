-- Tests of each element of a list, by its place, and of each edge of a graph.
use Rattle.std.proofs.Common.{◌≡◌, ◌↔◌, ℕ, zero, suc, ◌+◌, ◌<◌, ◌≤◌, Bool, true, false, ◌&&◌, IsTrue, List, [], ◌∷◌, length, get_or, drop, Some, Contains, refl, sym, ap, ◌∙◌, subst, arith, inl, inr}
use Rattle.std.specs.Prelude.{slice_get, slice_index_or}
use Rattle.std.specs.List.{AllZip, AllByRecursion, list_all}
use Rattle.std.proofs.lemmas.Bool.{and_parts, and_from, and_left}
use Rattle.std.proofs.lemmas.List.{drop_more, drop_all}
use Rattle.std.proofs.lemmas.Option.{none-some, same_Some}
use Rattle.meaning.proofs.Membership.{contains_nil, contains_here, contains_there, contains_cases}
use Rattle.meaning.specs.Code.{Occurrence}
use Rattle.meaning.specs.Uses.{Event}
use Rattle.checker.specs.CertificateTests.{all_from, edges_from}

module _ {A : Type 0} where
  pub members : (test : A → Bool) (xs : List A) → list_all test xs ≡ true → (x : A) → Contains xs x → test x ≡ true
  members test [] e x h = absurd (contains_nil x h)
  members test (y ∷ ys) e x h =
      let parts = and_parts (test y) (list_all test ys) e in
      elim (contains_cases y x ys h) [
        | inl same ↦ subst (λ z. test z ≡ true) same parts.0
        | inr later ↦ members test ys parts.1 x later
      ]

  pub all_members : (test : A → Bool) (xs : List A) → ((x : A) → Contains xs x → test x ≡ true) → list_all test xs ≡ true
  all_members test [] each = refl
  all_members test (y ∷ ys) each =
      and_from (test y) (list_all test ys) (each y (contains_here y ys))
      (all_members test ys (λ x h. each x (contains_there y x ys h)))

  pub by_recursion : (test : A → Bool) (P : A → Type 0) → ((x : A) → IsTrue (test x) ↔ P x) → (xs : List A)
      → IsTrue (list_all test xs) ↔ AllByRecursion P xs
  by_recursion test P is [] = (λ e. tt, λ h. refl)
  by_recursion test P is (x ∷ xs) =
      let rest = by_recursion test P is xs in (
        λ e. let parts = and_parts (test x) (list_all test xs) e in ((is x).0 parts.0, rest.0 parts.1),
        λ h. and_from (test x) (list_all test xs) ((is x).1 h.0) (rest.1 h.1),
      )

  -- one element after the other, where the test of those that are left is that of all
  module _ (test : A → Bool) (xs : List A) (n : ℕ) (x d : A) (own whole : Bool) (within : n < length xs)
      (is : x ≡ get_or xs n d) (tests : own ≡ test x) (left : list_all test (drop n xs) ≡ whole) where
    split : list_all test (drop n xs) ≡ (own && list_all test (drop (n + 1) xs))
    split =
        ap (list_all test) (drop_more xs n d within)
        ∙ ap (λ b. b && list_all test (drop (n + 1) xs)) (sym (tests ∙ ap test is))

    pub next_tested : own ≡ true → list_all test (drop (n + 1) xs) ≡ whole
    next_tested so = sym (split ∙ ap (λ b. b && list_all test (drop (n + 1) xs)) so) ∙ left

    pub stop_tested : own ≡ false → false ≡ whole
    stop_tested fails = sym (split ∙ and_left own (list_all test (drop (n + 1) xs)) fails) ∙ left

  pub end_tested : (test : A → Bool) (xs : List A) (n : ℕ) (whole : Bool) → length xs ≤ n
      → list_all test (drop n xs) ≡ whole → true ≡ whole
  end_tested test xs n whole past left = sym (ap (list_all test) (drop_all n xs past)) ∙ left

  -- with their places
  at_each_from : (test : ℕ → A → Bool) (n : ℕ) (xs : List A) → all_from test n xs ≡ true → (i : ℕ) (x : A)
      → slice_get xs i ≡ Some x → test (n + i) x ≡ true
  at_each_from test n [] e i x there = absurd (none-some x there)
  at_each_from test n (y ∷ ys) e zero x there =
      let parts = and_parts (test n y) (all_from test (n + 1) ys) e in
      let same : n ≡ n + 0 = omega arith in
      subst (λ k. test k x ≡ true) same (subst (λ z. test n z ≡ true) (same_Some y x there) parts.0)
  at_each_from test n (y ∷ ys) e (suc i) x there =
      let parts = and_parts (test n y) (all_from test (n + 1) ys) e in
      let same : (n + 1) + i ≡ n + suc i = omega arith in
      subst (λ k. test k x ≡ true) same (at_each_from test (n + 1) ys parts.1 i x there)

  each_from : (test : ℕ → A → Bool) (n : ℕ) (xs : List A)
      → ((i : ℕ) (x : A) → slice_get xs i ≡ Some x → test (n + i) x ≡ true) → all_from test n xs ≡ true
  each_from test n [] each = refl
  each_from test n (y ∷ ys) each =
      and_from (test n y) (all_from test (n + 1) ys) first (each_from test (n + 1) ys later)
    where
      first : test n y ≡ true
      first = let same : n + 0 ≡ n = omega arith in subst (λ k. test k y ≡ true) same (each 0 y refl)

      later : (i : ℕ) (x : A) → slice_get ys i ≡ Some x → test ((n + 1) + i) x ≡ true
      later i x there =
          let same : n + suc i ≡ (n + 1) + i = omega arith in subst (λ k. test k x ≡ true) same (each (suc i) x there)

  pub at_each : (test : ℕ → A → Bool) (xs : List A) → all_from test 0 xs ≡ true → (i : ℕ) (x : A)
      → slice_get xs i ≡ Some x → test i x ≡ true
  at_each test xs e i x there =
      let same : 0 + i ≡ i = omega arith in
      subst (λ k. test k x ≡ true) same (at_each_from test 0 xs e i x there)

  pub each_at : (test : ℕ → A → Bool) (xs : List A) → ((i : ℕ) (x : A) → slice_get xs i ≡ Some x → test i x ≡ true)
      → all_from test 0 xs ≡ true
  each_at test xs each =
      each_from test 0 xs
      (λ i x there. let same : i ≡ 0 + i = omega arith in subst (λ k. test k x ≡ true) same (each i x there))

module _ {A B : Type 0} (R : A → B → Type 0) (d : B) where
  first_and : (x : A) (xs : List A) (y : B) (ys : List B) → R x y
      → ((i : ℕ) (z : A) → slice_get xs i ≡ Some z → R z (slice_index_or ys i d))
      → (i : ℕ) (z : A) → slice_get (x ∷ xs) i ≡ Some z → R z (slice_index_or (y ∷ ys) i d)
  first_and x xs y ys first rest zero z e = subst (λ w. R w y) (same_Some x z e) first
  first_and x xs y ys first rest (suc i) z e = rest i z e

  pub zip_each : (xs : List A) (ys : List B) → AllZip R xs ys
      → (length ys ≡ length xs) × ((i : ℕ) (x : A) → slice_get xs i ≡ Some x → R x (slice_index_or ys i d))
  zip_each [] [] h = (refl, λ i x there. absurd (none-some x there))
  zip_each [] (y ∷ ys) h = absurd h
  zip_each (x ∷ xs) [] h = absurd h
  zip_each (x ∷ xs) (y ∷ ys) h = let rest = zip_each xs ys h.1 in (ap suc rest.0, first_and x xs y ys h.0 rest.1)

  pub each_zip : (xs : List A) (ys : List B) → length ys ≡ length xs
      → ((i : ℕ) (x : A) → slice_get xs i ≡ Some x → R x (slice_index_or ys i d)) → AllZip R xs ys
  each_zip [] [] same each = tt
  each_zip [] (y ∷ ys) same each = absurd (omega (arith, same))
  each_zip (x ∷ xs) [] same each = absurd (omega (arith, same))
  each_zip (x ∷ xs) (y ∷ ys) same each =
      (each 0 x refl, each_zip xs ys (omega (arith, same)) (λ i z there. each (suc i) z there))

-- the edges of a graph
module _ (test : ℕ → Event → ℕ → Bool) where
  at_edge_from : (n : ℕ) (os : List (Occurrence Event)) (links : List (List ℕ)) → edges_from test n os links ≡ true
      → (k m : ℕ) (o : Occurrence Event) (ms : List ℕ) → slice_get os k ≡ Some o → slice_get links k ≡ Some ms
      → Contains ms m → test (n + k) o.event m ≡ true
  at_edge_from n [] links e k m o ms here linked inside = absurd (none-some o here)
  at_edge_from n (p ∷ os) [] e k m o ms here linked inside = absurd (none-some ms linked)
  at_edge_from n (p ∷ os) (ns ∷ links) e zero m o ms here linked inside =
      let parts = and_parts (list_all (test n p.event) ns) (edges_from test (n + 1) os links) e in
      let same : n ≡ n + 0 = omega arith in
      subst (λ j. test j o.event m ≡ true) same
      (subst (λ q. test n q.event m ≡ true) (same_Some p o here)
      (members (test n p.event) ns parts.0 m (subst (λ l. Contains l m) (sym (same_Some ns ms linked)) inside)))
  at_edge_from n (p ∷ os) (ns ∷ links) e (suc k) m o ms here linked inside =
      let parts = and_parts (list_all (test n p.event) ns) (edges_from test (n + 1) os links) e in
      let same : (n + 1) + k ≡ n + suc k = omega arith in
      subst (λ j. test j o.event m ≡ true) same
      (at_edge_from (n + 1) os links parts.1 k m o ms here linked inside)

  edge_each_from : (n : ℕ) (os : List (Occurrence Event)) (links : List (List ℕ))
      → ((k m : ℕ) (o : Occurrence Event) (ms : List ℕ) → slice_get os k ≡ Some o → slice_get links k ≡ Some ms
      → Contains ms m → test (n + k) o.event m ≡ true)
      → edges_from test n os links ≡ true
  edge_each_from n [] links each = refl
  edge_each_from n (p ∷ os) [] each = refl
  edge_each_from n (p ∷ os) (ns ∷ links) each =
      and_from (list_all (test n p.event) ns) (edges_from test (n + 1) os links)
      (all_members (test n p.event) ns first) (edge_each_from (n + 1) os links later)
    where
      first : (m : ℕ) → Contains ns m → test n p.event m ≡ true
      first m inside =
          let same : n + 0 ≡ n = omega arith in
          subst (λ j. test j p.event m ≡ true) same (each 0 m p ns refl refl inside)

      later : (k m : ℕ) (o : Occurrence Event) (ms : List ℕ) → slice_get os k ≡ Some o → slice_get links k ≡ Some ms
          → Contains ms m → test ((n + 1) + k) o.event m ≡ true
      later k m o ms here linked inside =
          let same : n + suc k ≡ (n + 1) + k = omega arith in
          subst (λ j. test j o.event m ≡ true) same (each (suc k) m o ms here linked inside)

  pub at_edge : (os : List (Occurrence Event)) (links : List (List ℕ)) → edges_from test 0 os links ≡ true
      → (n m : ℕ) (o : Occurrence Event) (ms : List ℕ) → slice_get os n ≡ Some o → slice_get links n ≡ Some ms
      → Contains ms m → test n o.event m ≡ true
  at_edge os links e n m o ms here linked inside =
      let same : 0 + n ≡ n = omega arith in
      subst (λ j. test j o.event m ≡ true) same (at_edge_from 0 os links e n m o ms here linked inside)

  pub edge_each : (os : List (Occurrence Event)) (links : List (List ℕ))
      → ((n m : ℕ) (o : Occurrence Event) (ms : List ℕ) → slice_get os n ≡ Some o → slice_get links n ≡ Some ms
      → Contains ms m → test n o.event m ≡ true)
      → edges_from test 0 os links ≡ true
  edge_each os links each =
      edge_each_from 0 os links
      (λ n m o ms here linked inside.
      let same : n ≡ 0 + n = omega arith in
      subst (λ j. test j o.event m ≡ true) same (each n m o ms here linked inside))
