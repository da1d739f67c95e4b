-- Expressions that are no literals, no types of arrays, slices or maps, and no elements.
use Rattle.std.proofs.Common.{◌≡◌, [], Option, Some, None, is_none, option_map, refl, sym, ap, ◌∙◌, Bor}
use Rattle.std.specs.declared.alloc.Global.{Global}
use Rattle.std.specs.declared.boxed.Box.{Box}
use Rattle.std.specs.declared.vec.Vec.{Vec}
use Rattle.tree.specs.declared.expression.Expr.{Expr}
use Rattle.tree.specs.declared.expression.ExprKind.{ExprKind, CompositeLit, CompositeLit', KeyValue, KeyValue', Unary, Unary', ArrayType, ArrayType', EllipsisArrayType, EllipsisArrayType', SliceType, SliceType', MapType, MapType', FuncLit', roll-ExprKind, roll-out-ExprKind}
use Rattle.tree.specs.declared.expression.ExprKind.TheVariants.{rolls-CompositeLit, outs-CompositeLit'}
use Rattle.tree.specs.declared.expression.Literal.{Literal'}
use Rattle.tree.specs.declared.operator.UnaryOperator.{UnaryOperator}
use Rattle.tree.specs.declared.operator.UnaryOperator.TheVariants.{Address}
use Rattle.tree.specs.declared.span.Span.{Span}
use Rattle.tree.specs.Syntax.{Expression, expression_node, composite_literal, unary_expression, array_type, ellipsis_array_type, slice_type, map_type, OptionalExpression, missing_expression, present_expression}
use Rattle.tree.specs.View.{optional_expression_of, expression_form, expression_syntax}
use Rattle.meaning.specs.Kept.{element, may_have_fields, element_type, fields_in}
use Rattle.kept_forms.specs.FormViews.{held_type, held_by, literal_fields, addressed_fields}

pub element_other : (k : ExprKind) (span : Span) → ((key value : Box Expr Global) → k ≡ KeyValue key value → ⊥)
    → [] ≡ element (expression_node (expression_form k) span)
unfolding expression_form
element_other (KeyValue' p k k_span q v v_span) span not =
    absurd (not record { ptr = p.ptr; alloc = p.alloc; value = record { kind = k; span = k_span } }
    record { ptr = q.ptr; alloc = q.alloc; value = record { kind = v; span = v_span } } refl)
element_other (FuncLit' p (Literal' ps_shape ps rs_shape rs brackets body)) span not = refl
element_other _ span not = refl

pub held_other : (k : ExprKind) (span : Span) → ((n t : Box Expr Global) → k ≡ ArrayType n t → ⊥)
    → ((t : Box Expr Global) → k ≡ EllipsisArrayType t → ⊥) → ((t : Box Expr Global) → k ≡ SliceType t → ⊥)
    → ((key t : Box Expr Global) → k ≡ MapType key t → ⊥)
    → None ≡ held_type (expression_node (expression_form k) span)
unfolding expression_form
held_other (ArrayType' p n n_span q t t_span) span array ellipsis slice map =
    absurd (array record { ptr = p.ptr; alloc = p.alloc; value = record { kind = n; span = n_span } }
    record { ptr = q.ptr; alloc = q.alloc; value = record { kind = t; span = t_span } } refl)
held_other (EllipsisArrayType' p t t_span) span array ellipsis slice map =
    absurd (ellipsis record { ptr = p.ptr; alloc = p.alloc; value = record { kind = t; span = t_span } } refl)
held_other (SliceType' p t t_span) span array ellipsis slice map =
    absurd (slice record { ptr = p.ptr; alloc = p.alloc; value = record { kind = t; span = t_span } } refl)
held_other (MapType' p k k_span q t t_span) span array ellipsis slice map =
    absurd (map record { ptr = p.ptr; alloc = p.alloc; value = record { kind = k; span = k_span } }
    record { ptr = q.ptr; alloc = q.alloc; value = record { kind = t; span = t_span } } refl)
held_other (FuncLit' p (Literal' ps_shape ps rs_shape rs brackets body)) span array ellipsis slice map = refl
held_other _ span array ellipsis slice map = refl

pub fields_other : (k : ExprKind) (span : Span)
    → ((t : Box Expr Global) (es : Vec Expr Global) → k ≡ CompositeLit t es → ⊥)
    → [] ≡ literal_fields (expression_node (expression_form k) span)
unfolding expression_form
fields_other (CompositeLit' p t t_span shape es) span not =
    absurd (not _ _ (sym (roll-out-ExprKind (CompositeLit' p t t_span shape es))
    ∙ (ap roll-ExprKind (outs-CompositeLit' p t t_span shape es) ∙ rolls-CompositeLit _ _)))
fields_other (FuncLit' p (Literal' ps_shape ps rs_shape rs brackets body)) span not = refl
fields_other _ span not = refl

-- A literal of a type may have fields where that is not written as an array, slice or map.

type_held : (t : Expression) → is_none (held_type t) ≡ may_have_fields (present_expression t)
type_held (expression_node (array_type n t) span) = refl
type_held (expression_node (ellipsis_array_type t) span) = refl
type_held (expression_node (slice_type t) span) = refl
type_held (expression_node (map_type k t) span) = refl
type_held (expression_node _ span) = refl

pub may_if_none : (t : OptionalExpression) (o : Option (Bor Expr))
    → option_map (λ (e : Bor Expr). expression_syntax e.now) o ≡ held_by t → is_none o ≡ may_have_fields t
may_if_none t o same = none_seen o ∙ ap is_none same ∙ by t
  where
    none_seen : (o : Option (Bor Expr)) → is_none o ≡ is_none (option_map (λ (e : Bor Expr). expression_syntax e.now) o)
    none_seen None = refl
    none_seen (Some e) = refl

    by : (t : OptionalExpression) → is_none (held_by t) ≡ may_have_fields t
    by missing_expression = refl
    by (present_expression t) = type_held t

held_element : (t : Expression)
    → optional_expression_of (held_type t) ≡ element_type (present_expression t)
held_element (expression_node (array_type n t) span) = refl
held_element (expression_node (ellipsis_array_type t) span) = refl
held_element (expression_node (slice_type t) span) = refl
held_element (expression_node (map_type k t) span) = refl
held_element (expression_node _ span) = refl

pub held_is : (t : OptionalExpression) → optional_expression_of (held_by t) ≡ element_type t
held_is missing_expression = refl
held_is (present_expression t) = held_element t

-- `&T{..}`, and what has no operator before it

pub fields_addressed : (op : UnaryOperator) (e : Expression) (span : Span)
    → addressed_fields op e ≡ fields_in (expression_node (unary_expression op e) span)
fields_addressed Address (expression_node (composite_literal t es) inner) span = refl
fields_addressed Address (expression_node _ inner) span = refl
fields_addressed _ e span = refl

pub fields_plain : (k : ExprKind) (span : Span) → ((op : UnaryOperator) (e : Box Expr Global) → k ≡ Unary op e → ⊥)
    → literal_fields (expression_node (expression_form k) span) ≡ fields_in (expression_node (expression_form k) span)
unfolding expression_form
fields_plain (Unary' op p e e_span) span not =
    absurd (not op record { ptr = p.ptr; alloc = p.alloc; value = record { kind = e; span = e_span } } refl)
fields_plain (FuncLit' p (Literal' ps_shape ps rs_shape rs brackets body)) span not = refl
fields_plain _ span not = refl
