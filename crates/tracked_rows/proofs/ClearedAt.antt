-- What the values of a row clear, by their number.
use Rattle.std.proofs.Common.{◌≡◌, ◌⊎◌, ◌≢◌, inl, inr, ℕ, ◌<◌, ◌≤◌, eqb, true, false, true≢false, ◌&&◌, List, [], ◌∷◌, length, slice_index_or, Bor, Option, Some, None, IfSome, MatchOption, HoldsAt, option_map, refl, sym, ap, ◌∙◌}
use Rattle.std.specs.Prelude.{slice_get, ◌==◌}
use Rattle.std.proofs.lemmas.Bool.Decides.{eqb_tells}
use Rattle.std.proofs.lemmas.Option.{slice_get-map, slice_get_read, slice_get_past}
use Rattle.tree.specs.declared.expression.Expr.{Expr}
use Rattle.tree.specs.Syntax.{Expression}
use Rattle.tree.specs.View.{expression_syntax, expressions_syntax}
use Rattle.facts.proofs.ListedItems.{listed-map, listed-length}
use Rattle.meaning.specs.FunctionFacts.{listed}
use Rattle.meaning.specs.Mentions.{Row}
use Rattle.meaning.specs.Tracked.{Known, lefts_of}
use Rattle.meaning.specs.Uses.{is_no_giving, clears_at}

-- the value of that number, as the program has it
abbrev pub value_at : List Expr → ℕ → Option Expression
value_at es k = option_map expression_syntax (slice_get es k)

-- what was looked up in the list
pub got : (es : List Expr) (k : ℕ) (r : Option (Bor Expr)) → IfSome r (λ x. x.now ≡ slice_index_or es k x.now)
    → MatchOption r (length es ≤ k) (λ x. (k < length es) × HoldsAt (λ y. x.now ≡ y) es k)
    → option_map (λ (e : Bor Expr). expression_syntax e.now) r ≡ value_at es k
got es k None none past = sym (ap (option_map expression_syntax) (slice_get_past es k past))
got es k (Some x) is there = sym (ap (option_map expression_syntax) (slice_get_read es (length es) k x.now refl there.0 is))

listed-get : (es : List Expr) (k : ℕ) → value_at es k ≡ slice_get (listed (expressions_syntax es)) k
listed-get es k = sym (ap (λ l. slice_get l k) (listed-map es) ∙ slice_get-map expression_syntax es k)

module _ (known : Known) (row : Row) (k : ℕ) where
  clears-all : (es : List Expr) → false ≡ (length es == 0) → (length es ≡ 1 → ⊥)
      → ((length es == length (lefts_of row.form)) && is_no_giving known row (value_at es k))
      ≡ clears_at known row k (listed (expressions_syntax es))
  clears-all [] some one = absurd (true≢false (sym some))
  clears-all (e ∷ []) some one = absurd (one refl)
  clears-all (e ∷ f ∷ es) some one =
      λ i. (listed-length (e ∷ f ∷ es) i == length (lefts_of row.form)) && is_no_giving known row (listed-get (e ∷ f ∷ es) k i)

  -- one value for each left side
  pub clears-each : (es : List Expr) → false ≡ (length es == 0) → (length es ≡ 1 → ⊥) → length es ≡ length (lefts_of row.form)
      → is_no_giving known row (value_at es k) ≡ clears_at known row k (listed (expressions_syntax es))
  clears-each es some one same =
      ap (λ t. t && is_no_giving known row (value_at es k)) (by (eqb_tells (length es) (length (lefts_of row.form))))
      ∙ clears-all es some one
    where
      by : ((eqb (length es) (length (lefts_of row.form)) ≡ true) × (length es ≡ length (lefts_of row.form)))
          ⊎ ((eqb (length es) (length (lefts_of row.form)) ≡ false) × (length es ≢ length (lefts_of row.form)))
          → true ≡ (length es == length (lefts_of row.form))
      by (inl both) = sym both.0
      by (inr both) = absurd (both.1 same)

  pub clears-none : (es : List Expr) → false ≡ (length es == 0) → (length es ≡ 1 → ⊥)
      → (length es ≡ length (lefts_of row.form) → ⊥)
      → (length es == length (lefts_of row.form)) ≡ clears_at known row k (listed (expressions_syntax es))
  clears-none es some one other =
      by (eqb_tells (length es) (length (lefts_of row.form)))
      ∙ (sym (ap (λ t. t && is_no_giving known row (value_at es k)) (by (eqb_tells (length es) (length (lefts_of row.form)))))
      ∙ clears-all es some one)
    where
      by : ((eqb (length es) (length (lefts_of row.form)) ≡ true) × (length es ≡ length (lefts_of row.form)))
          ⊎ ((eqb (length es) (length (lefts_of row.form)) ≡ false) × (length es ≢ length (lefts_of row.form)))
          → (length es == length (lefts_of row.form)) ≡ false
      by (inl both) = absurd (other both.1)
      by (inr both) = both.0
