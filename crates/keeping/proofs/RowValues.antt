-- What a row gives its left side of a number, as the program has it.
use Rattle.std.proofs.Common.{◌≡◌, ℕ, ◌<◌, ◌≤◌, List, length, slice_index_or, Bor, Option, None, IfSome, MatchOption, HoldsAt, option_map, sym, ap, ◌∙◌, eq-eqb, ne_eqb}
use Rattle.std.specs.Prelude.{slice_get, ◌==◌, if◌then◌else◌}
use Rattle.std.proofs.lemmas.Option.{slice_get-map}
use Rattle.tree.specs.declared.expression.Expr.{Expr}
use Rattle.tree.specs.Syntax.{Expression}
use Rattle.tree.specs.View.{expression_syntax, expressions_syntax}
use Rattle.facts.proofs.ListedItems.{listed-map, listed-length}
use Rattle.meaning.specs.FunctionFacts.{listed}
use Rattle.tracked_rows.proofs.ClearedAt.{got}

module _ (es : List Expr) (n k : ℕ) where
  abbrev values : List Expression
  values = listed (expressions_syntax es)

  pub valued : (r : Option (Bor Expr)) → length es ≡ n
      → IfSome r (λ x. x.now ≡ slice_index_or es k x.now)
      → MatchOption r (length es ≤ k) (λ x. (k < length es) × HoldsAt (λ y. x.now ≡ y) es k)
      → option_map (λ (e : Bor Expr). expression_syntax e.now) r
      ≡ (if length values == n then slice_get values k else None)
  valued r same is there =
      got es k r is there
      ∙ (sym (ap (λ l. slice_get l k) (listed-map es) ∙ slice_get-map expression_syntax es k)
      ∙ ap (λ b. if b then slice_get values k else None) (sym (eq-eqb (length values) n (sym (listed-length es) ∙ same))))

  pub not_valued : (length es ≡ n → ⊥) → None ≡ (if length values == n then slice_get values k else None)
  not_valued other =
      ap (λ b. if b then slice_get values k else None)
      (sym (ne_eqb (length values) n (λ same. other (listed-length es ∙ same))))
