-- Rows that assign to one left side.
use Rattle.std.proofs.Common.{◌≡◌, if◌then◌else◌, List, [], ◌∷◌, length, None, refl}
use Rattle.std.specs.Prelude.{◌==◌}
use Rattle.tree.specs.declared.expression.Expr.{Expr}
use Rattle.tree.specs.Syntax.{Expressions, no_expression, expression_and}
use Rattle.tree.specs.View.{expressions_syntax}
use Rattle.meaning.specs.Mentions.{RowForm, defines, assigns, declares}
use Rattle.meaning.specs.Kept.{only_value_of, some_bare, stored_name}
use Rattle.kept.specs.KeptViews.{assigns_one}
use Rattle.kept_forms.proofs.DeclaredForms.{more_than_one}

pub one_assigned : (ls : List Expr) → (length ls == 1) ≡ assigns_one (assigns (expressions_syntax ls))
one_assigned [] = refl
one_assigned (l ∷ []) = refl
one_assigned (l ∷ m ∷ ls) = more_than_one (length ls)

pub stored_if : (form : RowForm) (es : Expressions)
    → stored_name form es ≡ (if assigns_one form then some_bare (only_value_of es) else None)
stored_if (defines ns) es = refl
stored_if (assigns no_expression) es = refl
stored_if (assigns (expression_and l no_expression)) es = refl
stored_if (assigns (expression_and l (expression_and m ls))) es = refl
stored_if (declares keyword ns t) es = refl
