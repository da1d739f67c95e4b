-- Lists of one expression, and empty ones.
use Rattle.std.proofs.Common.{◌≡◌, false, true≢false, List, [], ◌∷◌, length, None, refl, sym}
use Rattle.std.specs.Prelude.{◌==◌}
use Rattle.tree.specs.declared.expression.Expr.{Expr}
use Rattle.tree.specs.Syntax.{Expression, present_expression}
use Rattle.tree.specs.View.{expressions_syntax}
use Rattle.meaning.specs.Tracked.{Known, made_by_type}
use Rattle.meaning.specs.Uses.{clears_by_type}
use Rattle.tracked_rows.specs.RowViews.{only_value_of}

pub other-only : (es : List Expr) → (length es ≡ 1 → ⊥) → None ≡ only_value_of (expressions_syntax es)
other-only [] not = refl
other-only (e ∷ []) not = absurd (not refl)
other-only (e ∷ f ∷ es) not = refl

-- a type says nothing of names that have values

pub made-with-values : (known : Known) (t : Expression) (es : List Expr) → false ≡ (length es == 0)
    → None ≡ made_by_type known (present_expression t) (expressions_syntax es)
made-with-values known t [] some = absurd (true≢false (sym some))
made-with-values known t (e ∷ es) some = refl

pub cleared-with-values : (known : Known) (t : Expression) (es : List Expr) → false ≡ (length es == 0)
    → false ≡ clears_by_type known (present_expression t) (expressions_syntax es)
cleared-with-values known t [] some = absurd (true≢false (sym some))
cleared-with-values known t (e ∷ es) some = refl
