-- In a whole search no walk to a pair is shorter than the way of its step. How deep a step is says the chain of the
-- steps before it. Depths do not fall along the list, since the steps come by those before them: so what follows a step
-- is found at most one deeper than that step, wherever it was found first.
use Rattle.std.proofs.Common.{◌≡◌, ℕ, zero, suc, ◌<◌, ◌≤◌, List, Option, Some, None, refl, sym, ◌∙◌, subst, arith}
use Rattle.std.proofs.lemmas.Option.{same_Some, slice_get_within}
use Rattle.std.specs.Prelude.{slice_get}
use Rattle.flow.specs.Walks.{Graph}
use Rattle.searches.specs.Searched.{Pair, pair_of, Follows, IsReachedIn, starts, goes, IsNotBehind, AreSteps, IsWholeSearch, IsDepth, first, then_on, IsAsNear, SearchesFindNearest}
use Rattle.searches.specs.declared.search.Step.{Step}

-- a start is not behind what is behind a step
not_behind : (k : ℕ) (m n : Option ℕ) → m ≡ Some k → n ≡ None → IsNotBehind m n → ⊥
not_behind k None n is none h = let bad : None ≡ Some k = is in cc
not_behind k (Some j) None is none h = h
not_behind k (Some j) (Some i) is none h = let bad : Some i ≡ None = none in cc

by_numbers : (k l : ℕ) (m n : Option ℕ) → m ≡ Some k → n ≡ Some l → IsNotBehind m n → k ≤ l
by_numbers k l m n is_k is_l h =
    subst (λ o. IsNotBehind (Some k) o) is_l (subst (λ o. IsNotBehind o n) is_k h)

module _ {E : Type 0} (g : Graph E) (step : E → ℕ → ℕ) (entry : ℕ) (steps : List Step)
    (are : AreSteps g step entry steps) where
  -- what stands before a start is one
  before_start : (i j d : ℕ) (t : Step)
      → slice_get steps j ≡ Some t
      → t.before ≡ None
      → i ≤ j
      → IsDepth steps i d
      → d ≡ 0
  before_start i j d t there none le (first {s = s} at is) = refl
  before_start i j d t there none le (then_on {j = k} {d = c} {s = s} at is rest) =
      absurd (not_behind k s.before t.before is none (are.in_order i j s t at there le))

  -- what stands earlier is not deeper
  pub depths_rise : (i j d e : ℕ) → IsDepth steps i d → IsDepth steps j e → i ≤ j → d ≤ e
  depths_rise i j d e deep (first {s = t} there none) le =
      let same = before_start i j d t there none le deep in omega (arith, same)
  depths_rise i j d e deep (then_on {j = l} {d = f} {s = t} there is_l rest) le =
      of_earlier d (λ k c before order. depths_rise k l c f before rest order) deep
    where
      of_earlier : (n : ℕ) → ((k c : ℕ) → IsDepth steps k c → k ≤ l → c ≤ f) → IsDepth steps i n → n ≤ suc f
      of_earlier n rise (first {s = s} at is) = omega arith
      of_earlier n rise (then_on {j = k} {d = c} {s = s} at is_k before) =
          let order = by_numbers k l s.before t.before is_k is_l (are.in_order i j s t at there le) in
          let less = rise k c before order in
          omega (arith, less)

  -- each step has a depth
  pub deep : (n i : ℕ) (s : Step) → i < n → slice_get steps i ≡ Some s → (d : ℕ) × IsDepth steps i d
  deep zero i s less at = absurd (omega (arith, less))
  deep (suc n) i s less at = of_before (λ j t low there. deep n j t low there) s.before refl
    where
      of_before : ((j : ℕ) (t : Step) → j < n → slice_get steps j ≡ Some t → (d : ℕ) × IsDepth steps j d)
          → (m : Option ℕ)
          → s.before ≡ m
          → (d : ℕ) × IsDepth steps i d
      of_before rest None is = (0, first at is)
      of_before rest (Some j) is =
          let b = are.behind i j s at is in
          let earlier = b.is_earlier in
          let r = rest j b.earlier (omega (arith, less, earlier)) b.is_there in
          (suc r.0, then_on at is r.1)

  -- what is found at the latest behind a step is at most one deeper
  one_deeper : (i j c d : ℕ) (t : Step)
      → IsDepth steps i c
      → slice_get steps j ≡ Some t
      → IsNotBehind t.before (Some i)
      → IsDepth steps j d
      → d ≤ suc c
  one_deeper i j c d t deep_i there h (first {s = s} at is) = omega arith
  one_deeper i j c d t deep_i there h (then_on {j = k} {d = e} {s = s} at is rest) =
      let same = same_Some s t (sym at ∙ there) in
      let order = by_numbers k i s.before (Some i) is refl
      (subst (λ (r : Step). IsNotBehind r.before (Some i)) (sym same) h) in
      let less = depths_rise k i e c rest deep_i order in
      omega (arith, less)

  -- at the latest at the start
  no_deeper : (j d : ℕ) (t : Step)
      → slice_get steps j ≡ Some t
      → IsNotBehind t.before None
      → IsDepth steps j d
      → d ≡ 0
  no_deeper j d t there h (first {s = s} at is) = refl
  no_deeper j d t there h (then_on {j = k} {d = e} {s = s} at is rest) =
      let same = same_Some s t (sym at ∙ there) in
      absurd (not_behind k s.before None is refl
      (subst (λ (r : Step). IsNotBehind r.before None) (sym same) h))

module _ {E : Type 0} (g : Graph E) (step : E → ℕ → ℕ) (entry : ℕ) (steps : List Step)
    (whole : IsWholeSearch g step entry steps) where
  pub nearest : (d : ℕ) (p : Pair) → IsReachedIn g step entry d p → IsAsNear steps p d
  nearest d p (starts is_pair is_start) =
      let f = whole.has_starts p is_pair is_start in
      let less : f.number < suc f.number = omega arith in
      let k = deep g step entry steps whole.are_steps (suc f.number) f.number f.there less f.is_there in
      let none = no_deeper g step entry steps whole.are_steps f.number k.0 f.there f.is_there f.is_not_behind k.1 in
      record {
        number = f.number;
        there = f.there;
        depth = k.0;
        is_there = f.is_there;
        is_pair = f.is_pair;
        is_depth = k.1;
        is_near = omega (arith, none);
      }
  nearest d p (goes {d = c} {p = q} r is_pair follows) =
      let n = nearest c q r in
      let within = slice_get_within steps n.number n.there n.is_there in
      let f = whole.has_next n.number n.there p within n.is_there is_pair
      (subst (λ (x : Pair). Follows g step x p) (sym n.is_pair) follows) in
      let less : f.number < suc f.number = omega arith in
      let k = deep g step entry steps whole.are_steps (suc f.number) f.number f.there less f.is_there in
      let one = one_deeper g step entry steps whole.are_steps n.number f.number n.depth k.0 f.there n.is_depth
      f.is_there f.is_not_behind k.1 in
      let near = n.is_near in
      record {
        number = f.number;
        there = f.there;
        depth = k.0;
        is_there = f.is_there;
        is_pair = f.is_pair;
        is_depth = k.1;
        is_near = omega (arith, one, near);
      }

  -- a step before which no step is of these pairs is as near as any walk to one of them
  pub first_is_nearest : (Is : Pair → Type 0) (i e : ℕ)
      → IsDepth steps i e
      → ((j : ℕ) (t : Step) → slice_get steps j ≡ Some t → Is (pair_of t) → i ≤ j)
      → (d : ℕ) (q : Pair)
      → IsReachedIn g step entry d q
      → Is q
      → e ≤ d
  first_is_nearest Is i e deep_i none_before d q r is =
      let n = nearest d q r in
      let le = none_before n.number n.there n.is_there (subst Is (sym n.is_pair) is) in
      let less = depths_rise g step entry steps whole.are_steps i n.number e n.depth deep_i n.is_depth le in
      let near = n.is_near in
      omega (arith, less, near)

pub searches_find_nearest : (E : Type 0) → SearchesFindNearest E
searches_find_nearest E g step entry steps whole d p r = nearest g step entry steps whole d p r
