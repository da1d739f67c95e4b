-- Function literals and other values; empty lists of values.
use Rattle.std.proofs.Common.{◌≡◌, List, [], ◌∷◌, length, Some, None, refl, rules}
use Rattle.std.specs.Prelude.{◌==◌}
use Rattle.std.specs.declared.alloc.Global.{Global}
use Rattle.std.specs.declared.boxed.Box.{Box}
use Rattle.tree.specs.declared.expression.Expr.{Expr}
use Rattle.tree.specs.declared.expression.ExprKind.{ExprKind, FuncLit, FuncLit'}
use Rattle.tree.specs.declared.expression.Literal.{Literal, Literal'}
use Rattle.tree.specs.declared.span.Span.{Span}
use Rattle.tree.specs.Syntax.{expression_node}
use Rattle.tree.specs.View.{expression_form, literal_syntax, expressions_syntax}
use Rattle.tree.proofs.Views.{expression_form-FuncLit}
use Rattle.meaning.specs.Uses.{is_empty, literal_at}

literal_there : (literal : Literal) (span : Span) → Some span.start ≡ literal_at (expression_node (literal_syntax literal) span)
unfolding literal_syntax
literal_there (Literal' ps_shape ps rs_shape rs brackets body) span = refl

pub function_there : (k : ExprKind) (span : Span) (l : Box Literal Global) → k ≡ FuncLit l
    → Some span.start ≡ literal_at (expression_node (expression_form k) span)
function_there k span l is = rw (is, expression_form-FuncLit l) (literal_there l.value span)

pub other_there : (k : ExprKind) (span : Span) → ((l : Box Literal Global) → k ≡ FuncLit l → ⊥)
    → None ≡ literal_at (expression_node (expression_form k) span)
unfolding expression_form
other_there (FuncLit' p l) span not = absurd (not record { ptr = p.ptr; alloc = p.alloc; value = l } refl)
other_there _ span not = refl

pub empty_list : (es : List Expr) → (length es == 0) ≡ is_empty (expressions_syntax es)
empty_list [] = refl
empty_list (e ∷ es) = search rules
