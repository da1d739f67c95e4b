-- A step that is added behind the last one that is followed, or at the start.
use Rattle.std.proofs.Common.{◌≡◌, ℕ, ◌≤◌, ◌⊎◌, inl, inr, List, [], ◌∷◌, ◌++◌, length, Option, Some, None, sym, ap, ◌∙◌, subst, arith}
use Rattle.std.proofs.lemmas.Option.{slice_get_within}
use Rattle.std.specs.Prelude.{slice_get}
use Rattle.flow.specs.Walks.{Graph}
use Rattle.searches.proofs.GrownLists.{last_or_before, get_before, get_last}
use Rattle.searches.specs.Searched.{Pair, pair_of, IsPair, IsStart, Follows, IsNotBehind, IsFoundBy, IsBehind, AreSteps}
use Rattle.searches.specs.Searching.{MayFollow}
use Rattle.searches.specs.declared.search.Step.{Step}

pub not_behind_itself : (m : Option ℕ) → IsNotBehind m m
not_behind_itself None = tt
not_behind_itself (Some i) = omega arith

module _ {E : Type 0} (g : Graph E) (step : E → ℕ → ℕ) (entry : ℕ) (steps : List Step) (p : Pair) where
  start_of : (last : Option ℕ) → MayFollow g step entry steps last p → last ≡ None → IsStart g entry p
  start_of None may none = may
  start_of (Some j) may none = let bad : Some j ≡ None = none in cc

  earlier_of : (last : Option ℕ) (j : ℕ)
      → MayFollow g step entry steps last p
      → last ≡ Some j
      → (s : Step) × (slice_get steps j ≡ Some s) × Follows g step (pair_of s) p
  earlier_of None j may is = let bad : None ≡ Some j = is in cc
  earlier_of (Some i) j may is =
      subst (λ o. MayFollow g step entry steps o p) is may

  module _ (last : Option ℕ) (new : Step) (is_pair : pair_of new ≡ p) (is_last : new.before ≡ last)
      (are : AreSteps g step entry steps)
      (bounded : (i : ℕ) (t : Step) → slice_get steps i ≡ Some t → IsNotBehind t.before last)
      (may : MayFollow g step entry steps last p) (pair : IsPair g p) where
    abbrev after : List Step
    after = steps ++ new ∷ []

    abbrev Last : ℕ → Step → Type 0
    Last i t = (i ≡ length steps) × (new ≡ t)

    pair_there : (i : ℕ) (t : Step) → (slice_get steps i ≡ Some t) ⊎ Last i t → IsPair g (pair_of t)
    pair_there i t (inl e) = are.are_pairs i t e
    pair_there i t (inr l) = subst (IsPair g) (sym is_pair ∙ ap pair_of l.1) pair

    start_there : (i : ℕ) (t : Step)
        → (slice_get steps i ≡ Some t) ⊎ Last i t
        → t.before ≡ None
        → IsStart g entry (pair_of t)
    start_there i t (inl e) none = are.at_start i t e none
    start_there i t (inr l) none =
        subst (IsStart g entry) (sym is_pair ∙ ap pair_of l.1)
        (start_of last may (sym is_last ∙ ap (λ (s : Step). s.before) l.1 ∙ none))

    behind_there : (i j : ℕ) (t : Step)
        → (slice_get steps i ≡ Some t) ⊎ Last i t
        → t.before ≡ Some j
        → IsBehind g step after i t j
    behind_there i j t (inl e) is =
        let b = are.behind i j t e is in
        record {
          is_earlier = b.is_earlier;
          earlier = b.earlier;
          is_there = get_before steps new j b.earlier b.is_there;
          follows = b.follows;
        }
    behind_there i j t (inr l) is =
        let b = earlier_of last j may (sym is_last ∙ ap (λ (s : Step). s.before) l.1 ∙ is) in
        let within = slice_get_within steps j b.0 b.1 in
        let at = l.0 in
        record {
          is_earlier = omega (arith, within, at);
          earlier = b.0;
          is_there = get_before steps new j b.0 b.1;
          follows = subst (λ q. Follows g step (pair_of b.0) q) (sym is_pair ∙ ap pair_of l.1) b.2;
        }

    bounded_there : (i : ℕ) (t : Step) → (slice_get steps i ≡ Some t) ⊎ Last i t → IsNotBehind t.before last
    bounded_there i t (inl e) = bounded i t e
    bounded_there i t (inr l) =
        subst (λ o. IsNotBehind o last) (sym is_last ∙ ap (λ (s : Step). s.before) l.1) (not_behind_itself last)

    order_there : (i j : ℕ) (s t : Step)
        → (slice_get steps i ≡ Some s) ⊎ Last i s
        → (slice_get steps j ≡ Some t) ⊎ Last j t
        → i ≤ j
        → IsNotBehind s.before t.before
    order_there i j s t (inl a) (inl b) le = are.in_order i j s t a b le
    order_there i j s t first (inr l) le =
        subst (λ o. IsNotBehind s.before o) (sym is_last ∙ ap (λ (r : Step). r.before) l.1) (bounded_there i s first)
    order_there i j s t (inr l) (inl b) le =
        let within = slice_get_within steps j t b in
        let at = l.0 in
        absurd (omega (arith, within, at, le))

    cases : (i : ℕ) (t : Step) → slice_get after i ≡ Some t → (slice_get steps i ≡ Some t) ⊎ Last i t
    cases i t e = last_or_before steps new i t e

    pub are_after : AreSteps g step entry after
    are_after = record {
      are_pairs = λ i t e. pair_there i t (cases i t e);
      at_start = λ i t e none. start_there i t (cases i t e) none;
      behind = λ i j t e is. behind_there i j t (cases i t e) is;
      in_order = λ i j s t a b le. order_there i j s t (cases i s a) (cases j t b) le;
    }

    pub bounded_after : (i : ℕ) (t : Step) → slice_get after i ≡ Some t → IsNotBehind t.before last
    bounded_after i t e = bounded_there i t (cases i t e)

    pub found_after : IsFoundBy after p last
    found_after = record {
      number = length steps;
      there = new;
      is_there = get_last steps new;
      is_pair = is_pair;
      is_not_behind = subst (λ o. IsNotBehind o last) (sym is_last) (not_behind_itself last);
    }
