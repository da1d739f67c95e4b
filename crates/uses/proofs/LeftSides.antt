-- Tests of left sides by their numbers, and how many pass one; no values, and the second of several.
use Rattle.std.proofs.Common.{◌≡◌, ℕ, ◌+◌, ◌<◌, ◌≤◌, zero, suc, Bool, true, false, ◌&&◌, ◌||◌, List, [], ◌∷◌, length, drop, Option, Some, None, refl, sym, ap, ◌∙◌, arith, rules}
use Rattle.std.specs.Prelude.{slice_get, ◌==◌, if◌then◌else◌}
use Rattle.std.specs.List.{list_all, list_any, filter}
use Rattle.tree.specs.declared.expression.Expr.{Expr}
use Rattle.tree.specs.View.{expressions_syntax}
use Rattle.meaning.specs.Mentions.{is_none_left}
use Rattle.meaning.specs.Uses.{second, below}

module _ {A : Type 0} (f : Option A → Bool) where
  next_step : (xs : List A) (i : ℕ) → i < length xs
      → list_all (λ x. f (Some x)) (drop i xs) ≡ (f (slice_get xs i) && list_all (λ x. f (Some x)) (drop (suc i) xs))
  next_step [] i h = absurd (omega (arith, h))
  next_step (x ∷ xs) zero h = refl
  next_step (x ∷ xs) (suc i) h = next_step xs i (omega (arith, h))

  all_step : (xs : List A) (i : ℕ) → i < length xs
      → list_all (λ x. f (Some x)) (drop i xs) ≡ (f (slice_get xs i) && list_all (λ x. f (Some x)) (drop (i + 1) xs))
  all_step xs i h =
      let same : suc i ≡ i + 1 = omega arith in
      next_step xs i h ∙ ap (λ k. f (slice_get xs i) && list_all (λ x. f (Some x)) (drop k xs)) same

  -- one that fails the test, and one that passes it
  module _ (xs : List A) (i : ℕ) (within : i < length xs) (test : Bool) (tested : test ≡ f (slice_get xs i)) (whole : Bool)
      (so_far : list_all (λ x. f (Some x)) (drop i xs) ≡ whole) where
    pub one_fails : test ≡ false → false ≡ whole
    one_fails e =
        ap (λ b. b && list_all (λ x. f (Some x)) (drop (i + 1) xs)) (sym e ∙ tested) ∙ sym (all_step xs i within) ∙ so_far

    pub one_passes : test ≡ true → list_all (λ x. f (Some x)) (drop (i + 1) xs) ≡ whole
    one_passes e =
        ap (λ b. b && list_all (λ x. f (Some x)) (drop (i + 1) xs)) (sym e ∙ tested) ∙ sym (all_step xs i within) ∙ so_far

  -- How many pass the test

  next_count : (xs : List A) (i : ℕ) → i < length xs
      → length (filter (λ x. f (Some x)) (drop i xs))
      ≡ (if f (slice_get xs i) then suc (length (filter (λ x. f (Some x)) (drop (suc i) xs)))
      else length (filter (λ x. f (Some x)) (drop (suc i) xs)))
  next_count [] i h = absurd (omega (arith, h))
  next_count (x ∷ xs) zero h = by (f (Some x))
    where
      by : (b : Bool)
          → length (if b then x ∷ filter (λ y. f (Some y)) xs else filter (λ y. f (Some y)) xs)
          ≡ (if b then suc (length (filter (λ y. f (Some y)) xs)) else length (filter (λ y. f (Some y)) xs))
      by true = refl
      by false = refl
  next_count (x ∷ xs) (suc i) h = next_count xs i (omega (arith, h))

  -- so many of those before the index pass it
  pub record Counts (xs : List A) (i times : ℕ) : Type 0 where
    pub total : times + length (filter (λ x. f (Some x)) (drop i xs)) ≡ length (filter (λ x. f (Some x)) xs)
    pub within : times ≤ i

  module _ (xs : List A) (i times : ℕ) (within : i < length xs) (test : Bool) (tested : test ≡ f (slice_get xs i))
      (so_far : Counts xs i times) where
    abbrev left : ℕ
    left = length (filter (λ x. f (Some x)) (drop (suc i) xs))

    pub one_counted : test ≡ true → Counts xs (i + 1) (times + 1)
    one_counted e =
        let step : length (filter (λ x. f (Some x)) (drop i xs)) ≡ suc left =
        next_count xs i within ∙ ap (λ b. if b then suc left else left) (sym tested ∙ e) in
        let next : suc i ≡ i + 1 = omega arith in
        let total : (times + 1) + left ≡ length (filter (λ x. f (Some x)) xs) =
        omega (arith, step, so_far.total) in
        record {
          total = ap (λ k. (times + 1) + length (filter (λ x. f (Some x)) (drop k xs))) (sym next) ∙ total;
          within = omega (arith, so_far.within);
        }

    pub none_counted : test ≡ false → Counts xs (i + 1) times
    none_counted e =
        let step : length (filter (λ x. f (Some x)) (drop i xs)) ≡ left =
        next_count xs i within ∙ ap (λ b. if b then suc left else left) (sym tested ∙ e) in
        let next : suc i ≡ i + 1 = omega arith in
        record {
          total = ap (λ k. times + length (filter (λ x. f (Some x)) (drop k xs))) (sym next)
              ∙ ap (λ n. times + n) (sym step) ∙ so_far.total;
          within = omega (arith, so_far.within);
        }

-- the greatest number below fails the test
pub below_fails : (f : ℕ → Bool) (n m : ℕ) → n ≡ suc m → (test : Bool) → test ≡ f m → test ≡ false → (whole : Bool)
    → list_any f (below n) ≡ whole → list_any f (below m) ≡ whole
below_fails f n m e test tested fails whole so_far =
    ap (λ b. b || list_any f (below m)) (sym fails ∙ tested) ∙ ap (λ k. list_any f (below k)) (sym e) ∙ so_far

pub none_left : (es : List Expr) → (length es == 0) ≡ is_none_left (expressions_syntax es)
none_left [] = refl
none_left (e ∷ es) = search rules

pub second_missing : (es : List Expr) → length es ≤ 1 → second (expressions_syntax es) ≡ None
second_missing [] h = refl
second_missing (e ∷ []) h = refl
second_missing (e ∷ f ∷ es) h = absurd (omega (arith, h))
