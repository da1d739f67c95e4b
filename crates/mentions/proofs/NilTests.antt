-- What a condition says of `nil`, form by form.
use Rattle.std.proofs.Common.{◌≡◌, ℕ, Bool, true, false, not, List, [], ◌∷◌, ◌++◌, refl, sym, ap, ◌∙◌}
use Rattle.std.specs.Prelude.{if◌then◌else◌}
use Rattle.tree.specs.declared.operator.BinaryOperator.{BinaryOperator}
use Rattle.tree.specs.declared.span.Span.{Span}
use Rattle.tree.specs.declared.expression.Expr.{Expr}
use Rattle.tree.specs.declared.expression.ExprKind.{ExprKind, Binary, Binary', FuncLit'}
use Rattle.tree.specs.declared.expression.Literal.{Literal'}
use Rattle.std.specs.declared.alloc.Global.{Global}
use Rattle.std.specs.declared.boxed.Box.{Box}
use Rattle.tree.specs.Syntax.{Expression, expression_node, binary_expression}
use Rattle.tree.specs.View.{expression_form}
use Rattle.meaning.specs.Mentions.{as_bare, mention, found_nil, found_error, Mark, Row, NilTest, nil_test, nil_where, nil_marks, error_where, error_marks, has_both, compares}

pub nil_joined : (site : ℕ) (xs ys : List NilTest) → nil_marks site (xs ++ ys) ≡ nil_marks site xs ++ nil_marks site ys
nil_joined site [] ys = refl
nil_joined site (x ∷ xs) ys = ap (λ (ms : List Mark). mention site (found_nil x.nil) x.named ∷ ms) (nil_joined site xs ys)

pub error_joined : (site : ℕ) (row : Row) (xs ys : List NilTest)
    → error_marks site row (xs ++ ys) ≡ error_marks site row xs ++ error_marks site row ys
error_joined site row [] ys = refl
error_joined site row (x ∷ xs) ys =
    ap (λ (ms : List Mark). mention site (found_error x.nil row) x.named ∷ ms) (error_joined site row xs ys)

abbrev pub operands : Expression → Expression → List NilTest
operands l r = nil_test (as_bare l) (as_bare r) ++ nil_test (as_bare r) (as_bare l)

module _ (site : ℕ) (outcome : Bool) (op : BinaryOperator) (l r : Expression) (span : Span) where
  by_both : (b : Bool) → b ≡ has_both outcome op
      → nil_marks site (if b then nil_where outcome l ++ nil_where outcome r
      else if compares outcome op then operands l r else [])
      ≡ nil_marks site (nil_where outcome (expression_node (binary_expression op l r) span))
  by_both b e =
      ap (λ c. nil_marks site (if c then nil_where outcome l ++ nil_where outcome r
      else if compares outcome op then operands l r else [])) e

  pub both_found : true ≡ has_both outcome op
      → nil_marks site (nil_where outcome l) ++ nil_marks site (nil_where outcome r)
      ≡ nil_marks site (nil_where outcome (expression_node (binary_expression op l r) span))
  both_found e = sym (nil_joined site (nil_where outcome l) (nil_where outcome r)) ∙ by_both true e

  pub test_found : false ≡ has_both outcome op → true ≡ compares outcome op
      → nil_marks site (operands l r)
      ≡ nil_marks site (nil_where outcome (expression_node (binary_expression op l r) span))
  test_found e f = ap (λ c. nil_marks site (if c then operands l r else [])) f ∙ by_both false e

  pub none_found : false ≡ has_both outcome op → false ≡ compares outcome op
      → [] ≡ nil_marks site (nil_where outcome (expression_node (binary_expression op l r) span))
  none_found e f = ap (λ c. nil_marks site (if c then operands l r else [])) f ∙ by_both false e

  module _ (row : Row) where
    pub error_found : true ≡ compares (not outcome) op
        → error_marks site row (operands l r)
        ≡ error_marks site row (error_where outcome (expression_node (binary_expression op l r) span))
    error_found e = ap (λ c. error_marks site row (if c then operands l r else [])) e

    pub no_error : false ≡ compares (not outcome) op
        → [] ≡ error_marks site row (error_where outcome (expression_node (binary_expression op l r) span))
    no_error e = ap (λ c. error_marks site row (if c then operands l r else [])) e

module _ (site : ℕ) (outcome : Bool) where
  pub other_found : (k : ExprKind) (span : Span)
      → ((op : BinaryOperator) (l r : Box Expr Global) → k ≡ Binary op l r → ⊥)
      → [] ≡ nil_marks site (nil_where outcome (expression_node (expression_form k) span))
  unfolding expression_form
  other_found (Binary' op p l l_span q r r_span) span not =
      absurd (not op record { ptr = p.ptr; alloc = p.alloc; value = record { kind = l; span = l_span } }
      record { ptr = q.ptr; alloc = q.alloc; value = record { kind = r; span = r_span } } refl)
  other_found (FuncLit' p (Literal' ps_shape ps rs_shape rs brackets body)) span not = refl
  other_found _ span not = refl

  pub other_error : (row : Row) (k : ExprKind) (span : Span)
      → ((op : BinaryOperator) (l r : Box Expr Global) → k ≡ Binary op l r → ⊥)
      → [] ≡ error_marks site row (error_where outcome (expression_node (expression_form k) span))
  unfolding expression_form
  other_error row (Binary' op p l l_span q r r_span) span not =
      absurd (not op record { ptr = p.ptr; alloc = p.alloc; value = record { kind = l; span = l_span } }
      record { ptr = q.ptr; alloc = q.alloc; value = record { kind = r; span = r_span } } refl)
  other_error row (FuncLit' p (Literal' ps_shape ps rs_shape rs brackets body)) span not = refl
  other_error row _ span not = refl
