-- Left sides that may be a local by another name.
use Rattle.std.proofs.Common.{◌≡◌, Bool, true, false, refl}
use Rattle.std.specs.declared.alloc.Global.{Global}
use Rattle.std.specs.declared.boxed.Box.{Box}
use Rattle.tree.specs.declared.expression.Expr.{Expr}
use Rattle.tree.specs.declared.expression.ExprKind.{ExprKind, Paren, Paren', Star, Star', FuncLit'}
use Rattle.tree.specs.declared.expression.Literal.{Literal'}
use Rattle.tree.specs.declared.span.Span.{Span}
use Rattle.tree.specs.Syntax.{expression_node}
use Rattle.tree.specs.View.{expression_form}
use Rattle.tree.proofs.Views.{expression_form-Star, expression_form-Paren}
use Rattle.meaning.specs.Uses.{may_be_a_local}

pub pointed_may : (k : ExprKind) (span : Span) (e : Box Expr Global) → k ≡ Star e
    → true ≡ may_be_a_local (expression_node (expression_form k) span)
unfolding may_be_a_local
pointed_may k span e is = rw (is, expression_form-Star) refl

pub bracketed_may : (k : ExprKind) (span : Span) (e : Box Expr Global) → k ≡ Paren e
    → true ≡ may_be_a_local (expression_node (expression_form k) span)
unfolding may_be_a_local
bracketed_may k span e is = rw (is, expression_form-Paren) refl

pub others_may_not : (k : ExprKind) (span : Span) → ((e : Box Expr Global) → k ≡ Star e → ⊥)
    → ((e : Box Expr Global) → k ≡ Paren e → ⊥)
    → false ≡ may_be_a_local (expression_node (expression_form k) span)
unfolding expression_form may_be_a_local
others_may_not (Star' p e e_span) span star paren =
    absurd (star record { ptr = p.ptr; alloc = p.alloc; value = record { kind = e; span = e_span } } refl)
others_may_not (Paren' p e e_span) span star paren =
    absurd (paren record { ptr = p.ptr; alloc = p.alloc; value = record { kind = e; span = e_span } } refl)
others_may_not (FuncLit' p (Literal' ps_shape ps rs_shape rs brackets body)) span star paren = refl
others_may_not _ span star paren = refl
