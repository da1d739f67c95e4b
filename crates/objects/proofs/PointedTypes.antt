-- Types that are written with `*`, and others; parameters and receivers that have one.
use Rattle.std.proofs.Common.{◌≡◌, ℕ, Bool, true, false, ◌||◌, List, ◌++◌, refl, sym, ap, ◌∙◌}
use Rattle.std.specs.List.{list_any}
use Rattle.std.proofs.lemmas.List.Folds.{list_any-append}
use Rattle.std.specs.declared.alloc.Global.{Global}
use Rattle.std.specs.declared.boxed.Box.{Box}
use Rattle.tree.specs.declared.expression.Expr.{Expr}
use Rattle.tree.specs.declared.expression.ExprKind.{ExprKind, Star, Star', FuncLit'}
use Rattle.tree.specs.declared.expression.Literal.{Literal'}
use Rattle.tree.specs.declared.span.Span.{Span}
use Rattle.tree.specs.Syntax.{expression_node, present_expression}
use Rattle.tree.specs.View.{expression_form}
use Rattle.tree.proofs.Views.{expression_form-Star}
use Rattle.meaning.specs.FunctionFacts.{Item}
use Rattle.meaning.specs.Objects.{is_pointer, points}

pub star_there : (k : ExprKind) (span : Span) (e : Box Expr Global) → k ≡ Star e
    → true ≡ is_pointer (present_expression (expression_node (expression_form k) span))
star_there k span e is = rw (is, expression_form-Star) refl

pub star_other : (k : ExprKind) (span : Span) → ((e : Box Expr Global) → k ≡ Star e → ⊥)
    → false ≡ is_pointer (present_expression (expression_node (expression_form k) span))
unfolding expression_form
star_other (Star' p e e_span) span not =
    absurd (not record { ptr = p.ptr; alloc = p.alloc; value = record { kind = e; span = e_span } } refl)
star_other (FuncLit' p (Literal' ps_shape ps rs_shape rs brackets body)) span not = refl
star_other _ span not = refl

-- the receiver's items, and then the parameters'
pub either_points : (number : ℕ) (xs ys : List Item) (x y : Bool) → x ≡ list_any (points number) xs → y ≡ list_any (points number) ys
    → (x || y) ≡ list_any (points number) (xs ++ ys)
either_points number xs ys x y of_xs of_ys =
    ap (λ t. t || y) of_xs ∙ ap (λ t. list_any (points number) xs || t) of_ys ∙ sym (list_any-append (points number) xs ys)
