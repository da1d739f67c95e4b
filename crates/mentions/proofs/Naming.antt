-- Expressions that are no names.
use Rattle.std.proofs.Common.{◌≡◌, ℕ, true, false, true≢false, List, [], ◌∷◌, length, refl, sym, ap, ◌∙◌, None}
use Rattle.std.specs.Prelude.{◌==◌}
use Rattle.std.proofs.Math.Dec.{eqb-suc-zero}
use Rattle.std.specs.declared.alloc.Global.{Global}
use Rattle.std.specs.declared.boxed.Box.{Box}
use Rattle.std.specs.declared.vec.Vec.{Vec}
use Rattle.tree.specs.declared.expression.Expr.{Expr}
use Rattle.tree.specs.declared.expression.ExprKind.{ExprKind, Name, Selector, Selector', Paren, Paren', Star, Star', CompositeLit, CompositeLit', FuncLit', roll-ExprKind, roll-out-ExprKind}
use Rattle.tree.specs.declared.expression.ExprKind.TheVariants.{rolls-CompositeLit, outs-CompositeLit'}
use Rattle.tree.specs.declared.operator.UnaryOperator.TheVariants.{Address}
use Rattle.tree.specs.declared.expression.Literal.{Literal'}
use Rattle.tree.specs.declared.span.Identifier.{Identifier as KeptIdentifier}
use Rattle.tree.specs.declared.span.Span.{Span}
use Rattle.tree.specs.Syntax.{Expression, expression_node, composite_literal}
use Rattle.tree.specs.View.{expression_form, expression_syntax, expressions_syntax}
use Rattle.tree.proofs.Views.{expression_form-CompositeLit}
use Rattle.meaning.specs.Mentions.{as_bare, as_named, as_bracketed, as_pointer, as_new_literal, without_brackets}

pub bare_other : (k : ExprKind) (span : Span) → ((text : List ℕ) → k ≡ Name text → ⊥)
    → None ≡ as_bare (expression_node (expression_form k) span)
unfolding expression_form
bare_other (Name text) span not = absurd (not text refl)
bare_other (FuncLit' p (Literal' ps_shape ps rs_shape rs brackets body)) span not = refl
bare_other _ span not = refl

pub named_other : (k : ExprKind) (span : Span) → ((text : List ℕ) → k ≡ Name text → ⊥)
    → ((e : Box Expr Global) (n : KeptIdentifier) → k ≡ Selector e n → ⊥)
    → None ≡ as_named (expression_node (expression_form k) span)
unfolding expression_form
named_other (Name text) span name selector = absurd (name text refl)
named_other (Selector' p e e_span n) span name selector =
    absurd (selector record { ptr = p.ptr; alloc = p.alloc; value = record { kind = e; span = e_span } } n refl)
named_other (FuncLit' p (Literal' ps_shape ps rs_shape rs brackets body)) span name selector = refl
named_other _ span name selector = refl

pub brackets_other : (k : ExprKind) (span : Span) → ((e : Box Expr Global) → k ≡ Paren e → ⊥)
    → expression_node (expression_form k) span ≡ without_brackets (expression_node (expression_form k) span)
unfolding expression_form
brackets_other (Paren' p e e_span) span not =
    absurd (not record { ptr = p.ptr; alloc = p.alloc; value = record { kind = e; span = e_span } } refl)
brackets_other (FuncLit' p (Literal' ps_shape ps rs_shape rs brackets body)) span not = refl
brackets_other _ span not = refl

pub bracketed_other : (k : ExprKind) (span : Span) → ((e : Box Expr Global) → k ≡ Paren e → ⊥)
    → None ≡ as_bracketed (expression_node (expression_form k) span)
unfolding expression_form
bracketed_other (Paren' p e e_span) span not =
    absurd (not record { ptr = p.ptr; alloc = p.alloc; value = record { kind = e; span = e_span } } refl)
bracketed_other (FuncLit' p (Literal' ps_shape ps rs_shape rs brackets body)) span not = refl
bracketed_other _ span not = refl

pub pointer_other : (k : ExprKind) (span : Span) → ((e : Box Expr Global) → k ≡ Star e → ⊥)
    → None ≡ as_pointer (expression_node (expression_form k) span)
unfolding expression_form
pointer_other (Star' p e e_span) span not =
    absurd (not record { ptr = p.ptr; alloc = p.alloc; value = record { kind = e; span = e_span } } refl)
pointer_other (FuncLit' p (Literal' ps_shape ps rs_shape rs brackets body)) span not = refl
pointer_other _ span not = refl

-- T of `&T{}`

empty_literal : (t : Expression) (span : Span) (es : List Expr) → true ≡ (length es == 0)
    → as_named t ≡ as_new_literal Address (expression_node (composite_literal t (expressions_syntax es)) span)
empty_literal t span [] none = refl
empty_literal t span (e ∷ es) none = absurd (true≢false (none ∙ eqb-suc-zero (length es)))

filled_literal : (t : Expression) (span : Span) (es : List Expr) → false ≡ (length es == 0)
    → None ≡ as_new_literal Address (expression_node (composite_literal t (expressions_syntax es)) span)
filled_literal t span [] some = absurd (true≢false (sym some))
filled_literal t span (e ∷ es) some = refl

module _ (k : ExprKind) (span : Span) where
  module _ (t : Box Expr Global) (es : Vec Expr Global) (list : List Expr) (is : k ≡ CompositeLit t es) (same : list ≡ es.items) where
    pub new_empty : true ≡ (length list == 0)
        → as_named (expression_syntax t.value) ≡ as_new_literal Address (expression_node (expression_form k) span)
    new_empty none =
        rw (is, expression_form-CompositeLit t es, ← same) (empty_literal (expression_syntax t.value) span list none)

    pub new_filled : false ≡ (length list == 0) → None ≡ as_new_literal Address (expression_node (expression_form k) span)
    new_filled some =
        rw (is, expression_form-CompositeLit t es, ← same) (filled_literal (expression_syntax t.value) span list some)

pub new_other : (k : ExprKind) (span : Span)
    → ((t : Box Expr Global) (es : Vec Expr Global) → k ≡ CompositeLit t es → ⊥)
    → None ≡ as_new_literal Address (expression_node (expression_form k) span)
unfolding expression_form
new_other (CompositeLit' p t t_span shape es) span not =
    absurd (not _ _ (sym (roll-out-ExprKind (CompositeLit' p t t_span shape es))
    ∙ (ap roll-ExprKind (outs-CompositeLit' p t t_span shape es) ∙ rolls-CompositeLit _ _)))
new_other (FuncLit' p (Literal' ps_shape ps rs_shape rs brackets body)) span not = refl
new_other _ span not = refl
