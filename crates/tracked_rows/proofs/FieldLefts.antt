-- Expressions as left sides: names, fields, and others.
use Rattle.std.proofs.Common.{◌≡◌, ℕ, List, refl}
use Rattle.std.specs.declared.alloc.Global.{Global}
use Rattle.std.specs.declared.boxed.Box.{Box}
use Rattle.tree.specs.declared.expression.Expr.{Expr}
use Rattle.tree.specs.declared.expression.ExprKind.{ExprKind, Name, Selector, Selector', FuncLit'}
use Rattle.tree.specs.declared.expression.Literal.{Literal'}
use Rattle.tree.specs.declared.span.Identifier.{Identifier as KeptIdentifier}
use Rattle.tree.specs.declared.span.Span.{Span}
use Rattle.tree.specs.Syntax.{Identifier, Expression, expression_node, name_expression, selector_expression}
use Rattle.tree.specs.View.{expression_form}
use Rattle.meaning.specs.Mentions.{as_bare}
use Rattle.meaning.specs.Tracked.{other_left, left_of_expression}
use Rattle.tracked_rows.specs.RowViews.{field_of}

pub field_there : (e : Expression) (f : Identifier) (span : Span)
    → field_of (as_bare e) f ≡ left_of_expression (expression_node (selector_expression e f) span)
field_there (expression_node (name_expression n) at) f span = refl
field_there (expression_node _ at) f span = refl

pub left_other : (k : ExprKind) (span : Span) → ((text : List ℕ) → k ≡ Name text → ⊥)
    → ((e : Box Expr Global) (n : KeptIdentifier) → k ≡ Selector e n → ⊥)
    → other_left ≡ left_of_expression (expression_node (expression_form k) span)
unfolding expression_form
left_other (Name text) span name selector = absurd (name text refl)
left_other (Selector' p e e_span n) span name selector =
    absurd (selector record { ptr = p.ptr; alloc = p.alloc; value = record { kind = e; span = e_span } } n refl)
left_other (FuncLit' p (Literal' ps_shape ps rs_shape rs brackets body)) span name selector = refl
left_other _ span name selector = refl
