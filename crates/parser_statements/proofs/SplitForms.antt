-- Which expressions in memory are type parameters that were read as a length: `P * Y`, `P (Y)`, or one of these `| Z`.
use Rattle.std.proofs.Common.{◌≡◌, ℕ, Bool, true, false, List, Option, Some, None, refl, sym, ap, ◌∙◌}
use Rattle.std.specs.Prelude.{option_map}
use Rattle.std.specs.declared.alloc.Global.{Global}
use Rattle.std.specs.declared.boxed.Box.{Box}
use Rattle.std.specs.declared.vec.Vec.{Vec}
use Rattle.tree.specs.declared.expression.Expr.{Expr}
use Rattle.tree.specs.declared.expression.ExprKind.{ExprKind, Call, Call', Binary, Binary', FuncLit', roll-ExprKind, roll-out-ExprKind}
use Rattle.tree.specs.declared.expression.ExprKind.TheVariants.{rolls-Call, outs-Call'}
use Rattle.tree.specs.declared.expression.Literal.{Literal'}
use Rattle.tree.specs.declared.operator.BinaryOperator.{BinaryOperator}
use Rattle.tree.specs.declared.operator.BinaryOperator.TheVariants.{Or, Multiply}
use Rattle.tree.specs.declared.span.Span.{Span}
use Rattle.tree.specs.Syntax.{Expression, expression_node, parenthesized, call_expression, star_expression, binary_expression}
use Rattle.tree.specs.View.{expression_form, expression_syntax, expressions_syntax}
use Rattle.tree.proofs.Views.{expression_form-Binary, expression_form-Call}
use Rattle.tree_reader.specs.Reader.{single}
use Rattle.parser_base.specs.declared.fault.Stop.{Stop}
use Rattle.parser_base.specs.Gives.{Stops}
use Rattle.parser_base.proofs.Faults.{fails_too}
use Rattle.parser_statements.specs.SplitConstraint.{constraint_of, constraint_form}

pub no_split : (span : Span) (k : ExprKind)
    → ((op : BinaryOperator) (l r : Box Expr Global) → k ≡ Binary op l r → ⊥)
    → ((e : Box Expr Global) (es : Vec Expr Global) (ellipsis : Bool) → k ≡ Call e es ellipsis → ⊥)
    → constraint_form span (expression_form k) ≡ None
unfolding expression_form constraint_of
no_split span (Binary' op p l l_span q r r_span) binary call =
    absurd (binary op record { ptr = p.ptr; alloc = p.alloc; value = record { kind = l; span = l_span } } record { ptr = q.ptr; alloc = q.alloc; value = record { kind = r; span = r_span } } refl)
no_split span (Call' p e e_span shape es ellipsis) binary call =
    absurd (call _ _ _ (sym (roll-out-ExprKind (Call' p e e_span shape es ellipsis)) ∙ (ap roll-ExprKind (outs-Call' p e e_span shape es ellipsis) ∙ rolls-Call _ _ ellipsis)))
no_split span (FuncLit' p (Literal' ps_shape ps rs_shape rs brackets body)) binary call = refl
no_split span _ binary call = refl

no_operator : (span : Span) (op : BinaryOperator) (l r : Expression)
    → (op ≡ Or → ⊥)
    → (op ≡ Multiply → ⊥)
    → constraint_form span (binary_expression op l r) ≡ None
unfolding constraint_of
no_operator span Or l r or times = absurd (or refl)
no_operator span Multiply l r or times = absurd (times refl)
no_operator span _ l r or times = refl

-- of an expression in memory, by its kind
module _ (span : Span) (k : ExprKind) (op : BinaryOperator) (l r : Box Expr Global) (binary : k ≡ Binary op l r) where
  form : expression_form k ≡ binary_expression op (expression_syntax l.value) (expression_syntax r.value)
  form = ap expression_form binary ∙ expression_form-Binary op l r

  pub other_operator : (op ≡ Or → ⊥) → (op ≡ Multiply → ⊥) → constraint_form span (expression_form k) ≡ None
  other_operator or times = ap (constraint_form span) form ∙ no_operator span op _ _ or times

  pub pointed : op ≡ Multiply → constraint_form span (expression_form k) ≡ Some (expression_node (star_expression (expression_syntax r.value)) span)
  unfolding constraint_of
  pointed is = ap (constraint_form span) form ∙ rw is refl

  -- what stands in the left box
  module _ (is : op ≡ Or) (x : Expr) (same : x ≡ l.value) where
    pub united : (c : Expression) → constraint_of span.start (expression_syntax x) ≡ Some c → constraint_form span (expression_form k) ≡ Some (expression_node (binary_expression Or c (expression_syntax r.value)) span)
    unfolding constraint_of
    united c found =
        let there : constraint_of span.start (expression_syntax l.value) ≡ Some c =
        ap (λ (e : Expr). constraint_of span.start (expression_syntax e)) (sym same) ∙ found in
        ap (constraint_form span) form ∙ rw (is, there) refl

    pub not_united : (stop : Stop) → Stops stop (constraint_of span.start (expression_syntax x)) → Stops stop (constraint_form span (expression_form k))
    unfolding constraint_of
    not_united stop h =
        fails_too stop (constraint_of span.start (expression_syntax x)) (constraint_form span (expression_form k)) h (λ none.
        let there : constraint_of span.start (expression_syntax l.value) ≡ None =
        ap (λ (e : Expr). constraint_of span.start (expression_syntax e)) (sym same) ∙ none in
        ap (constraint_form span) form ∙ rw (is, there) refl)

module _ (span : Span) (k : ExprKind) (e : Box Expr Global) (es : Vec Expr Global) (ellipsis : Bool) (call : k ≡ Call e es ellipsis) where
  called : expression_form k ≡ call_expression (expression_syntax e.value) (expressions_syntax es.items) ellipsis
  called = ap expression_form call ∙ expression_form-Call e es ellipsis

  pub spread : ellipsis ≡ true → constraint_form span (expression_form k) ≡ None
  unfolding constraint_of
  spread is = ap (constraint_form span) called ∙ rw is refl

  one_argument : (found : Option Expression) → single (expressions_syntax es.items) ≡ found → ellipsis ≡ false → constraint_form span (expression_form k) ≡ option_map (λ y. expression_node (parenthesized y) span) found
  unfolding constraint_of
  one_argument None none is = ap (constraint_form span) called ∙ rw (is, none) refl
  one_argument (Some y) one is = ap (constraint_form span) called ∙ rw (is, one) refl

  pub alone : ellipsis ≡ false → constraint_form span (expression_form k) ≡ option_map (λ y. expression_node (parenthesized y) span) (single (expressions_syntax es.items))
  alone is = one_argument (single (expressions_syntax es.items)) refl is
