-- Values that are calls, function literals or begin with an operator, and others.
use Rattle.std.proofs.Common.{◌≡◌, ℕ, Bool, true, false, ◌&&◌, if◌then◌else◌, Option, Some, None, refl, sym, ap, ◌∙◌}
use Rattle.std.specs.Prelude.{◌==◌, codes}
use Rattle.std.specs.declared.alloc.Global.{Global}
use Rattle.std.specs.declared.boxed.Box.{Box}
use Rattle.std.specs.declared.vec.Vec.{Vec}
use Rattle.tree.specs.declared.expression.Expr.{Expr}
use Rattle.tree.specs.declared.expression.ExprKind.{ExprKind, Call, Call', FuncLit, FuncLit', Unary, Unary', roll-ExprKind, roll-out-ExprKind}
use Rattle.tree.specs.declared.expression.ExprKind.TheVariants.{rolls-Call, outs-Call'}
use Rattle.tree.specs.declared.expression.Literal.{Literal, Literal'}
use Rattle.tree.specs.declared.operator.UnaryOperator.{UnaryOperator}
use Rattle.tree.specs.declared.span.Span.{Span}
use Rattle.tree.specs.Syntax.{expression_node}
use Rattle.tree.specs.View.{expression_form, literal_syntax, expression_syntax}
use Rattle.tree.proofs.Views.{expression_form-FuncLit, expression_form-Unary}
use Rattle.meaning.specs.Mentions.{Named, Row, Call as NamedCall, as_bare, as_new_literal}
use Rattle.meaning.specs.Tracked.{Known, GroupState, idle, is_of_universe, is_group_type, call_in, made_by_call, made_by_value}
use Rattle.meaning.specs.Uses.{is_empty_value}

pub call_other : (row : Row) (k : ExprKind) (span : Span)
    → ((e : Box Expr Global) (es : Vec Expr Global) (ellipsis : Bool) → k ≡ Call e es ellipsis → ⊥)
    → None ≡ call_in row (expression_node (expression_form k) span)
unfolding expression_form
call_other row (Call' p e e_span shape es ellipsis) span not =
    absurd (not _ _ _ (sym (roll-out-ExprKind (Call' p e e_span shape es ellipsis))
    ∙ (ap roll-ExprKind (outs-Call' p e e_span shape es ellipsis) ∙ rolls-Call _ _ ellipsis)))
call_other row (FuncLit' p (Literal' ps_shape ps rs_shape rs brackets body)) span not = refl
call_other row _ span not = refl

pub made_other : (known : Known) (row : Row) (count : ℕ) (k : ExprKind) (span : Span)
    → ((op : UnaryOperator) (e : Box Expr Global) → k ≡ Unary op e → ⊥)
    → made_by_call known count (call_in row (expression_node (expression_form k) span))
    ≡ made_by_value known row count (expression_node (expression_form k) span)
unfolding expression_form
made_other known row count (Unary' op p e e_span) span not =
    absurd (not op record { ptr = p.ptr; alloc = p.alloc; value = record { kind = e; span = e_span } } refl)
made_other known row count (FuncLit' p (Literal' ps_shape ps rs_shape rs brackets body)) span not = refl
made_other known row count _ span not = refl

module _ (known : Known) (row : Row) (k : ExprKind) (span : Span) (made : Option GroupState) (count lefts : ℕ) (same : count ≡ lefts) where
  pub made-literal : (op : UnaryOperator) (e : Box Expr Global) (operand : Expr) (named : Option Named)
      → k ≡ Unary op e → operand ≡ e.value → named ≡ as_new_literal op (expression_syntax operand)
      → made ≡ (if is_group_type known named && (count == 1) then Some idle else None)
      → made ≡ made_by_value known row lefts (expression_node (expression_form k) span)
  made-literal op e operand named is operand-is named-is made-is =
      rw (is, expression_form-Unary op e, ← operand-is, ← named-is, ← same) made-is

  pub made-call : (call : Option NamedCall) → ((op : UnaryOperator) (e : Box Expr Global) → k ≡ Unary op e → ⊥)
      → call ≡ call_in row (expression_node (expression_form k) span) → made ≡ made_by_call known count call
      → made ≡ made_by_value known row lefts (expression_node (expression_form k) span)
  made-call call not call-is made-is =
      made-is ∙ (ap (λ n. made_by_call known n call) same ∙ (ap (made_by_call known lefts) call-is ∙ made_other known row lefts k span not))

-- the universe's `nil`
abbrev pub is_nil_named : Known → Option Named → Bool
is_nil_named known None = false
is_nil_named known (Some n) = is_of_universe known (codes "nil") n

literal_empty : (known : Known) (literal : Literal) (span : Span)
    → true ≡ is_empty_value known (expression_node (literal_syntax literal) span)
unfolding expression_form
literal_empty known (Literal' ps_shape ps rs_shape rs brackets body) span = refl

pub function_empty : (known : Known) (k : ExprKind) (span : Span) (literal : Box Literal Global) → k ≡ FuncLit literal
    → true ≡ is_empty_value known (expression_node (expression_form k) span)
function_empty known k span literal is =
    rw (is, expression_form-FuncLit literal) (literal_empty known literal.value span)

pub empty_other : (known : Known) (k : ExprKind) (span : Span)
    → ((literal : Box Literal Global) → k ≡ FuncLit literal → ⊥)
    → is_nil_named known (as_bare (expression_node (expression_form k) span))
    ≡ is_empty_value known (expression_node (expression_form k) span)
unfolding expression_form
empty_other known (FuncLit' p literal) span not =
    absurd (not record { ptr = p.ptr; alloc = p.alloc; value = literal } refl)
empty_other known _ span not = refl
