-- The first place of a line that passes a test, and where a needle stands in a part of a text.
use Rattle.std.proofs.Common.{◌≡◌, ℕ, zero, suc, ◌+◌, ◌-◌, ◌<◌, ◌≤◌, Bool, true, false, ◌&&◌, cond, List, ◌++◌, Some, None, length, drop, get_or, refl, sym, ap, ◌∙◌, subst, arith, ⊎_elim, length-append, length-drop, get_or-drop}
use Rattle.std.proofs.lemmas.Bool.{and_from, cases_Bool, cases_eq, cases_lt}
use Rattle.std.proofs.lemmas.List.{get_or_append_left, get_or-append-add}
use Rattle.std.specs.List.{find, range_with_len}
use Rattle.memchr.specs.Find.{NoneBefore, Nowhere, OccursAt, occurs_at}
use Rattle.memchr.proofs.lemmas.MatchLemmas.{OccursAt-true, occurs_at-true}
use Rattle.directives.specs.Marks.{is_free, mark, place_in, stands_at}

-- of some numbers the first that passes is found, or none
module _ (test : ℕ → Bool) where
  pub found_among : (a n k : ℕ) → a ≤ k → k < a + n → test k ≡ true → ((j : ℕ) → a ≤ j → j < k → test j ≡ false)
      → find test (range_with_len a n) ≡ Some k
  found_among a zero k low high passes before = absurd (omega arith)
  found_among a (suc n) k low high passes before =
      ⊎_elim
      (λ same. ap (λ t. cond t (Some a) (find test (range_with_len (a + 1) n))) (ap test same ∙ passes) ∙ ap (λ x. Some x) same)
      (λ other. ap (λ t. cond t (Some a) (find test (range_with_len (a + 1) n))) (before a (omega arith) (omega (arith, other)))
      ∙ found_among (a + 1) n k (omega (arith, other)) (omega arith) passes (λ j above below. before j (omega arith) below))
      (cases_eq a k)

  pub none_among : (a n : ℕ) → ((j : ℕ) → a ≤ j → j < a + n → test j ≡ false) → find test (range_with_len a n) ≡ None
  none_among a zero none = refl
  none_among a (suc n) none =
      ap (λ t. cond t (Some a) (find test (range_with_len (a + 1) n))) (none a (omega arith) (omega arith))
      ∙ none_among (a + 1) n (λ j above below. none j (omega arith) (omega arith))

  -- and what is found is one of them, and passes
  pub passes_among : (a n k : ℕ) → find test (range_with_len a n) ≡ Some k → (test k ≡ true) × (k < a + n)
  passes_among a zero k is = absurd (cc)
  passes_among a (suc n) k is =
      ⊎_elim
      (λ yes_is.
      let same : Some a ≡ Some k = sym (ap (λ t. cond t (Some a) (find test (range_with_len (a + 1) n))) yes_is) ∙ is in
      let here : a ≡ k = cc in
      (ap test (sym here) ∙ yes_is, omega (arith, here)))
      (λ no_is.
      let later = passes_among (a + 1) n k (sym (ap (λ t. cond t (Some a) (find test (range_with_len (a + 1) n))) no_is) ∙ is) in
      (later.0, omega (arith, later.1)))
      (cases_Bool (test a))

module _ (text needle : List ℕ) where
  -- what stands in a part of a text stands in the text
  pub stands_behind : (from k : ℕ) → from ≤ length text → OccursAt (drop from text) needle k → OccursAt text needle (from + k)
  stands_behind from k inside occurs = record {
    fits = omega (arith, occurs.fits, length-drop from text);
    reads = λ j below. ap (λ n. get_or text n 0) (omega arith) ∙ (sym (get_or-drop from text (k + j) 0) ∙ occurs.reads j below);
  }

  pub stands_left : (from k : ℕ) → OccursAt text needle (from + k) → OccursAt (drop from text) needle k
  stands_left from k occurs = record {
    fits = omega (arith, occurs.fits, length-drop from text);
    reads = λ j below. get_or-drop from text (k + j) 0 ∙ (ap (λ n. get_or text n 0) (omega arith) ∙ occurs.reads j below);
  }

  pub stands_first : (rest : List ℕ) (k : ℕ) → OccursAt text needle k → OccursAt (text ++ rest) needle k
  stands_first rest k occurs = record {
    fits = omega (arith, occurs.fits, length-append text rest);
    reads = λ j below. get_or_append_left text rest 0 (k + j) (omega (arith, occurs.fits)) ∙ occurs.reads j below;
  }

  pub stands_later : (front : List ℕ) (k : ℕ) → OccursAt text needle k → OccursAt (front ++ text) needle (length front + k)
  stands_later front k occurs = record {
    fits = omega (arith, occurs.fits, length-append front text);
    reads = λ j below. ap (λ n. get_or (front ++ text) n 0) (omega arith) ∙ (get_or-append-add front text (k + j) 0 ∙ occurs.reads j below);
  }

-- no directive stands before this place
abbrev pub IsPassed : List ℕ → ℕ → Type 0
IsPassed line passed = (j : ℕ) → j < passed → stands_at line j ≡ false

module _ (line : List ℕ) where
  none_there : (j : ℕ) → (OccursAt line mark j → ⊥) → stands_at line j ≡ false
  none_there j none =
      ⊎_elim (λ yes_is. absurd (none (OccursAt-true line mark j yes_is))) (λ no_is. ap (λ t. t && is_free line j) no_is)
      (cases_Bool (occurs_at line mark j))

  not_free : (j : ℕ) → is_free line j ≡ false → stands_at line j ≡ false
  not_free j kept =
      ⊎_elim (λ yes_is. ap (λ t. t && is_free line j) yes_is ∙ kept) (λ no_is. ap (λ t. t && is_free line j) no_is)
      (cases_Bool (occurs_at line mark j))

  -- up to the next mark no directive stands
  pub up_to : (passed further : ℕ) → IsPassed line passed → Nowhere (OccursAt (drop passed line) mark) 0 further
      → IsPassed line (passed + further)
  up_to passed further before none j below =
      ⊎_elim (λ near. before j near)
      (λ far. none_there j (λ occurs.
      let there : j ≡ passed + (j - passed) = omega arith in
      none (j - passed) (omega arith) (omega arith) (stands_left line mark passed (j - passed) (subst (OccursAt line mark) there occurs))))
      (cases_lt j passed)

  pub one_more : (place : ℕ) → IsPassed line place → is_free line place ≡ false → IsPassed line (place + 1)
  one_more place before kept j below =
      ⊎_elim (λ same. ap (stands_at line) same ∙ not_free place kept) (λ other. before j (omega (arith, other))) (cases_eq j place)

  pub found_at : (place : ℕ) → IsPassed line place → OccursAt line mark place → is_free line place ≡ true
      → Some place ≡ place_in line
  found_at place before occurs free =
      let passes = and_from _ _ (occurs_at-true line mark place occurs) free in
      sym (found_among (stands_at line) 0 (length line) place (omega arith) (omega (arith, occurs.fits)) passes (λ j low below. before j below))

  pub found_nowhere : (passed : ℕ) → IsPassed line passed → Nowhere (OccursAt (drop passed line) mark) 0 (length (drop passed line) + 1)
      → None ≡ place_in line
  found_nowhere passed before none =
      let all = up_to passed (length (drop passed line) + 1) before none in
      sym (none_among (stands_at line) 0 (length line) (λ j low below. all j (omega (arith, length-drop passed line))))

  pub lacks_all : ((k : ℕ) → OccursAt line mark k → ⊥) → place_in line ≡ None
  lacks_all none = none_among (stands_at line) 0 (length line) (λ j low below. none_there j (none j))

-- the next mark behind what was passed
abbrev pub IsNext : List ℕ → List ℕ → ℕ → Type 0
IsNext rest needle further = NoneBefore (OccursAt rest needle) 0 (length rest + 1) further × OccursAt rest needle further

module _ (line rest needle : List ℕ) (passed : ℕ) (is_rest : rest ≡ drop passed line) (is_mark : needle ≡ mark) (inside : passed ≤ length line) (before : IsPassed line passed) where
  module _ (further : ℕ) (next : IsNext rest needle further) where
    next_mark : IsNext (drop passed line) mark further
    next_mark =
        subst (λ n. IsNext (drop passed line) n further) is_mark (subst (λ r. IsNext r needle further) is_rest next)

    there : OccursAt line mark (passed + further)
    there = stands_behind line mark passed further inside next_mark.1

    passed_more : IsPassed line (passed + further)
    passed_more = up_to line passed further before next_mark.0.before

    pub next_found : is_free line (passed + further) ≡ true → Some (passed + further) ≡ place_in line
    next_found free = found_at line (passed + further) passed_more there free

    pub next_fits : passed + further + length mark ≤ length line
    next_fits = there.fits

    pub next_passed : is_free line (passed + further) ≡ false
        → (passed + further + 1 ≤ length line) × IsPassed line (passed + further + 1)
    next_passed kept = (omega (arith, there.fits), one_more line (passed + further) passed_more kept)

  pub none_found : Nowhere (OccursAt rest needle) 0 (length rest + 1) → None ≡ place_in line
  none_found none =
      let seen = subst (λ r. Nowhere (OccursAt r needle) 0 (length r + 1)) is_rest none in
      found_nowhere line passed before (subst (λ n. Nowhere (OccursAt (drop passed line) n) 0 (length (drop passed line) + 1)) is_mark seen)
