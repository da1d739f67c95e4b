-- What is asked of fields and given to others, form by form.
use Rattle.std.proofs.Common.{◌≡◌, ℕ, Bool, true, false, [], ◌∷◌, Option, Some, None, option_map, refl, sym, ap, ◌∙◌}
use Rattle.std.specs.declared.alloc.Global.{Global}
use Rattle.std.specs.declared.boxed.Box.{Box}
use Rattle.std.specs.declared.vec.Vec.{Vec}
use Rattle.tree.specs.declared.declaration.Spec.TheBlock.{backs-StmtKind}
use Rattle.tree.specs.declared.expression.Expr.{Expr}
use Rattle.tree.specs.declared.expression.ExprKind.{ExprKind, Call, Call', Paren, Paren', Selector, Selector', Star, Star', Unary, Unary', FuncLit', roll-ExprKind, roll-out-ExprKind}
use Rattle.tree.specs.declared.expression.ExprKind.TheVariants.{rolls-Call, outs-Call'}
use Rattle.tree.specs.declared.expression.Literal.{Literal'}
use Rattle.tree.specs.declared.operator.UnaryOperator.{UnaryOperator}
use Rattle.tree.specs.declared.operator.UnaryOperator.TheVariants.{Address}
use Rattle.tree.specs.declared.span.Identifier.{Identifier as KeptIdentifier}
use Rattle.tree.specs.declared.span.Span.{Span}
use Rattle.tree.specs.declared.statement.StmtKind.{StmtKind, Send, Send', Define, Define'}
use Rattle.tree.specs.Syntax.{Identifier, Expression, expression_node, Expressions, no_expression, expression_and, selector_expression, unary_expression, statement_node, present_statement}
use Rattle.tree.specs.View.{expression_form, statement_form}
use Rattle.tree.proofs.Views.{expression_form-Paren}
use Rattle.mentions.specs.declared.mark.CallPlace.{CallPlace as KeptPlace}
use Rattle.mentions.specs.declared.mark.CallPlace.TheVariants.{Nowhere, Statement, OnlyValue, ReturnItem, Deferred, UnderGo}
use Rattle.mentions.specs.declared.mark.Taker.{Taker as KeptTaker}
use Rattle.mentions.specs.declared.mark.Taker.TheVariants.{Nobody, CalledFunction, Appending, Method, Someone}
use Rattle.mentions.specs.declared.mark.Named.{Named as KeptNamed}
use Rattle.mentions.specs.MarkViews.{named_view, addressed_object, place_view, taker_view}
use Rattle.meaning.specs.Mentions.{Named, FieldLeft, CallPlace, nowhere, as_bare, as_bracketed, some_taker, of_fields, hands_over, hands_literal, deferred, under_go, object_of, is_in_brackets, place_but_for, arguments_place, field_left, field_called, given_to, literal_given_to, receiver_given, right_given, rights_given, communication_given}

-- Expressions that are a field, and those that are none, or no call

abbrev pub left_at : Identifier → Option Named → Bool → FieldLeft
left_at f n bracketed = record { field = f; object = n; has_brackets = bracketed }

pub object_other : (k : ExprKind) (span : Span)
    → ((e : Box Expr Global) → k ≡ Paren e → ⊥)
    → ((e : Box Expr Global) → k ≡ Star e → ⊥)
    → ((op : UnaryOperator) (e : Box Expr Global) → k ≡ Unary op e → ⊥)
    → as_bare (expression_node (expression_form k) span) ≡ object_of (expression_node (expression_form k) span)
unfolding expression_form
object_other (Paren' p e e_span) span brackets pointer address =
    absurd (brackets record { ptr = p.ptr; alloc = p.alloc; value = record { kind = e; span = e_span } } refl)
object_other (Star' p e e_span) span brackets pointer address =
    absurd (pointer record { ptr = p.ptr; alloc = p.alloc; value = record { kind = e; span = e_span } } refl)
object_other (Unary' op p e e_span) span brackets pointer address =
    absurd (address op record { ptr = p.ptr; alloc = p.alloc; value = record { kind = e; span = e_span } } refl)
object_other (FuncLit' p (Literal' ps_shape ps rs_shape rs brackets body)) span no_brackets pointer address = refl
object_other _ span brackets pointer address = refl

pub object_behind : (op : UnaryOperator) (e : Expression) (span : Span)
    → addressed_object op (object_of e) ≡ object_of (expression_node (unary_expression op e) span)
object_behind Address e span = refl
object_behind _ e span = refl

pub bracketed_is : (k : ExprKind) (span : Span) (e : Box Expr Global) → k ≡ Paren e
    → true ≡ is_in_brackets (expression_node (expression_form k) span)
bracketed_is k span e is = rw (is, expression_form-Paren) refl

pub bracketed_other : (k : ExprKind) (span : Span) → ((e : Box Expr Global) → k ≡ Paren e → ⊥)
    → false ≡ is_in_brackets (expression_node (expression_form k) span)
unfolding expression_form
bracketed_other (Paren' p e e_span) span brackets =
    absurd (brackets record { ptr = p.ptr; alloc = p.alloc; value = record { kind = e; span = e_span } } refl)
bracketed_other (FuncLit' p (Literal' ps_shape ps rs_shape rs brackets body)) span no_brackets = refl
bracketed_other _ span brackets = refl

-- what a name in brackets calls, and what something else calls
pub named_place : (place : CallPlace) (e : Expression) (n : Option KeptNamed) (found : KeptNamed) → n ≡ Some found
    → option_map named_view n ≡ as_bracketed e → nowhere ≡ arguments_place place e
named_place place e n found is same = ap (λ m. place_but_for m place) (sym (ap (option_map named_view) is) ∙ same)

pub other_place : (place : CallPlace) (e : Expression) (n : Option KeptNamed) → n ≡ None
    → option_map named_view n ≡ as_bracketed e → place ≡ arguments_place place e
other_place place e n is same = ap (λ m. place_but_for m place) (sym (ap (option_map named_view) is) ∙ same)

pub left_other : (k : ExprKind) (span : Span)
    → ((e : Box Expr Global) (n : KeptIdentifier) → k ≡ Selector e n → ⊥)
    → ((e : Box Expr Global) → k ≡ Paren e → ⊥)
    → None ≡ field_left (expression_node (expression_form k) span)
unfolding expression_form
left_other (Selector' p e e_span n) span selector brackets =
    absurd (selector record { ptr = p.ptr; alloc = p.alloc; value = record { kind = e; span = e_span } } n refl)
left_other (Paren' p e e_span) span selector brackets =
    absurd (brackets record { ptr = p.ptr; alloc = p.alloc; value = record { kind = e; span = e_span } } refl)
left_other (FuncLit' p (Literal' ps_shape ps rs_shape rs brackets body)) span selector no_brackets = refl
left_other _ span selector brackets = refl

module _ (site : ℕ) where
  pub called_other : (k : ExprKind) (span : Span)
      → ((e : Box Expr Global) (n : KeptIdentifier) → k ≡ Selector e n → ⊥)
      → [] ≡ field_called site (expression_node (expression_form k) span)
  unfolding expression_form
  called_other (Selector' p e e_span n) span not =
      absurd (not record { ptr = p.ptr; alloc = p.alloc; value = record { kind = e; span = e_span } } n refl)
  called_other (FuncLit' p (Literal' ps_shape ps rs_shape rs brackets body)) span not = refl
  called_other _ span not = refl

  pub method_other : (k : ExprKind) (span : Span)
      → ((e : Box Expr Global) (n : KeptIdentifier) → k ≡ Selector e n → ⊥)
      → [] ≡ receiver_given under_go site (expression_node (expression_form k) span)
  unfolding expression_form
  method_other (Selector' p e e_span n) span not =
      absurd (not record { ptr = p.ptr; alloc = p.alloc; value = record { kind = e; span = e_span } } n refl)
  method_other (FuncLit' p (Literal' ps_shape ps rs_shape rs brackets body)) span not = refl
  method_other _ span not = refl

  pub right_other : (is_only : Bool) (k : ExprKind) (span : Span)
      → ((e : Box Expr Global) (es : Vec Expr Global) (ellipsis : Bool) → k ≡ Call e es ellipsis → ⊥)
      → given_to site some_taker (expression_node (expression_form k) span)
      ≡ right_given site is_only (expression_node (expression_form k) span)
  unfolding expression_form
  right_other is_only (Call' p e e_span shape es ellipsis) span not =
      absurd (not _ _ _ (sym (roll-out-ExprKind (Call' p e e_span shape es ellipsis))
      ∙ (ap roll-ExprKind (outs-Call' p e e_span shape es ellipsis) ∙ rolls-Call _ _ ellipsis)))
  right_other is_only (FuncLit' p (Literal' ps_shape ps rs_shape rs brackets body)) span not = refl
  right_other is_only _ span not = refl

-- a clause that neither sends nor declares
pub clause_other : (clause : ℕ) (k : StmtKind) (span : Span)
    → ((c v : Box Expr Global) → k ≡ Send c v → ⊥)
    → ((ns : Vec KeptIdentifier Global) (rs : Vec Expr Global) → k ≡ Define ns rs → ⊥)
    → [] ≡ communication_given clause (present_statement (statement_node (statement_form k) span))
unfolding statement_form
clause_other clause (Send' p c c_span q v v_span) span send define =
    absurd (send record { ptr = p.ptr; alloc = p.alloc; value = record { kind = c; span = c_span } }
    record { ptr = q.ptr; alloc = q.alloc; value = record { kind = v; span = v_span } } refl)
clause_other clause (Define' ns shape rs) span send define =
    absurd (define _ _ (sym (backs-StmtKind (Define' ns shape rs))))
clause_other clause _ span send define = refl

-- Takers

module _ (site : ℕ) where
  pub given_other : (taker : KeptTaker) (e : Expression)
      → (taker ≡ Nobody → ⊥)
      → of_fields site (hands_over (taker_view taker) e) ∷ [] ≡ given_to site (taker_view taker) e
  given_other Nobody e not = absurd (not refl)
  given_other (CalledFunction c) e not = refl
  given_other (Appending n) e not = refl
  given_other (Method m) e not = refl
  given_other Someone e not = refl

  pub literal_given_other : (taker : KeptTaker) (at : ℕ)
      → (taker ≡ Nobody → ⊥)
      → of_fields site (hands_literal (taker_view taker) at) ∷ [] ≡ literal_given_to site (taker_view taker) at
  literal_given_other Nobody at not = absurd (not refl)
  literal_given_other (CalledFunction c) at not = refl
  literal_given_other (Appending n) at not = refl
  literal_given_other (Method m) at not = refl
  literal_given_other Someone at not = refl

  pub receiver_other : (place : KeptPlace) (e : Expression)
      → (place ≡ Deferred → ⊥)
      → (place ≡ UnderGo → ⊥)
      → [] ≡ receiver_given (place_view place) site e
  receiver_other Nowhere e saved started = refl
  receiver_other Statement e saved started = refl
  receiver_other (OnlyValue row) e saved started = refl
  receiver_other (ReturnItem k) e saved started = refl
  receiver_other Deferred e saved started = absurd (saved refl)
  receiver_other UnderGo e saved started = absurd (started refl)

  -- both keywords give alike
  pub receiver_alike : (e : Expression) → receiver_given under_go site e ≡ receiver_given deferred site e
  receiver_alike (expression_node (selector_expression e m) span) = refl
  receiver_alike _ = refl

  -- where no right side is left
  pub none_right : (is_only : Bool) (ls : Expressions) → rights_given site is_only ls no_expression ≡ []
  none_right is_only no_expression = refl
  none_right is_only (expression_and l ls) = refl

  -- where no left side is left
  pub none_left : (is_only : Bool) (rs : Expressions) → rights_given site is_only no_expression rs ≡ []
  none_left is_only no_expression = refl
  none_left is_only (expression_and r rs) = refl
