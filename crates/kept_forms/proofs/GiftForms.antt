-- What is given by each form of an expression, and by others nothing.
use Rattle.std.proofs.Common.{◌≡◌, ℕ, Bool, true, false, if◌then◌else◌, List, [], ◌++◌, map, refl, sym, ap, ◌∙◌}
use Rattle.std.proofs.lemmas.List.{append-nil, append_assoc}
use Rattle.std.specs.declared.alloc.Global.{Global}
use Rattle.std.specs.declared.boxed.Box.{Box}
use Rattle.std.specs.declared.vec.Vec.{Vec}
use Rattle.tree.specs.declared.expression.Expr.{Expr}
use Rattle.tree.specs.declared.expression.ExprKind.{ExprKind, Name, Unary, Unary', CompositeLit, CompositeLit', LiteralValue, LiteralValue', KeyValue, KeyValue', FuncLit', roll-ExprKind, roll-out-ExprKind}
use Rattle.tree.specs.declared.expression.ExprKind.TheVariants.{rolls-CompositeLit, outs-CompositeLit', rolls-LiteralValue, outs-LiteralValue'}
use Rattle.tree.specs.declared.expression.Literal.{Literal'}
use Rattle.tree.specs.declared.operator.UnaryOperator.{UnaryOperator}
use Rattle.tree.specs.declared.operator.UnaryOperator.TheVariants.{Address}
use Rattle.tree.specs.declared.span.Span.{Span}
use Rattle.tree.specs.Syntax.{Expression, Expressions, expression_node, no_expression, expression_and, unary_expression, OptionalExpression}
use Rattle.tree.specs.View.{expression_form}
use Rattle.meaning.specs.Kept.{Element, element, may_have_fields, element_type, fields_of, element_gift, gifts, elements_gifts}
use Rattle.kept_forms.specs.FormViews.{addressed_gifts}

pub none_given : (t : OptionalExpression) (k : ExprKind) (span : Span) → ((text : List ℕ) → k ≡ Name text → ⊥)
    → ((op : UnaryOperator) (e : Box Expr Global) → k ≡ Unary op e → ⊥)
    → ((u : Box Expr Global) (es : Vec Expr Global) → k ≡ CompositeLit u es → ⊥)
    → ((es : Vec Expr Global) → k ≡ LiteralValue es → ⊥)
    → ((key value : Box Expr Global) → k ≡ KeyValue key value → ⊥)
    → [] ≡ gifts t (expression_node (expression_form k) span)
unfolding expression_form gifts
none_given t (Name text) span name unary composite value pair = absurd (name text refl)
none_given t (Unary' op p e e_span) span name unary composite value pair =
    absurd (unary op record { ptr = p.ptr; alloc = p.alloc; value = record { kind = e; span = e_span } } refl)
none_given t (CompositeLit' p u u_span shape es) span name unary composite value pair =
    absurd (composite _ _ (sym (roll-out-ExprKind (CompositeLit' p u u_span shape es))
    ∙ (ap roll-ExprKind (outs-CompositeLit' p u u_span shape es) ∙ rolls-CompositeLit _ _)))
none_given t (LiteralValue' shape es) span name unary composite value pair =
    absurd (value _ (sym (roll-out-ExprKind (LiteralValue' shape es))
    ∙ (ap roll-ExprKind (outs-LiteralValue' shape es) ∙ rolls-LiteralValue _)))
none_given t (KeyValue' p k k_span q v v_span) span name unary composite value pair =
    absurd (pair record { ptr = p.ptr; alloc = p.alloc; value = record { kind = k; span = k_span } }
    record { ptr = q.ptr; alloc = q.alloc; value = record { kind = v; span = v_span } } refl)
none_given t (FuncLit' p (Literal' ps_shape ps rs_shape rs brackets body)) span name unary composite value pair = refl
none_given t _ span name unary composite value pair = refl

pub given_addressed : (t : OptionalExpression) (op : UnaryOperator) (e : Expression) (span : Span)
    → addressed_gifts op e ≡ gifts t (expression_node (unary_expression op e) span)
unfolding gifts
given_addressed t Address e span = refl
given_addressed t _ e span = refl

-- an element that stands alone
pub own_if : (t : OptionalExpression) (e : Expression)
    → map element_gift (fields_of t (expression_and e no_expression))
    ≡ (if may_have_fields t then map element_gift (element e) else [])
own_if t e = by (may_have_fields t) (element e)
  where
    by : (b : Bool) (es : List Element)
        → map element_gift (if b then es ++ [] else []) ≡ (if b then map element_gift es else [])
    by true es = ap (map element_gift) (append-nil es)
    by false es = refl

-- one element, and then those after it
pub elements_more : (t inner : OptionalExpression) (e : Expression) (es : Expressions) → inner ≡ element_type t
    → elements_gifts t (expression_and e es)
    ≡ (map element_gift (fields_of t (expression_and e no_expression)) ++ gifts inner e) ++ elements_gifts t es
unfolding gifts
elements_more t inner e es same =
    let own = map element_gift (fields_of t (expression_and e no_expression)) in
    sym (append_assoc own (gifts inner e) (elements_gifts t es)
    ∙ ap (λ u. own ++ (gifts u e ++ elements_gifts t es)) same)

pub no_elements : (t : OptionalExpression) → elements_gifts t no_expression ≡ []
unfolding gifts
no_elements t = refl
