-- Of the tokens of `x.(type)` an expression takes the name alone.
use Rattle.std.proofs.Common.{◌≡◌, Bool, true, false, List, drop, refl, sym, ap, ◌∙◌, true≢false}
use Rattle.lexer.specs.declared.token.Token.{Token}
use Rattle.lexer.specs.declared.token.TokenKind.{TokenKind}
use Rattle.lexer.specs.declared.token.TokenKind.TheVariants.{Identifier as name_token, LeftParenthesis, Dot}
use Rattle.tree.specs.declared.edition.Edition.{Edition}
use Rattle.tree.specs.declared.span.Span.{Span}
use Rattle.tree.specs.declared.operator.BasicLitKind.{BasicLitKind}
use Rattle.tree.specs.declared.operator.BasicLitKind.TheVariants.{Number}
use Rattle.tree.specs.declared.operator.BinaryOperator.{BinaryOperator}
use Rattle.tree.specs.declared.operator.BinaryOperator.TheVariants.{LogicalOr}
use Rattle.tree.specs.declared.operator.UnaryOperator.{UnaryOperator}
use Rattle.tree.specs.declared.operator.UnaryOperator.TheVariants.{Plus}
use Rattle.tree.specs.declared.operator.ChanDirection.{ChanDirection}
use Rattle.tree.specs.declared.operator.ChanDirection.TheVariants.{Both, Send, Receive}
use Rattle.tree.specs.Syntax.{Expression, expression_node, name_expression, basic_literal, function_literal, composite_literal, literal_value, key_value, parenthesized, selector_expression, index_expression, instance_expression, slice_expression, type_assertion, call_expression, star_expression, unary_expression, binary_expression, array_type, ellipsis_array_type, slice_type, map_type, channel_type, function_type, struct_type, interface_type}
use Rattle.meaning.specs.Cursor.{GoText, Cursor, TakesToken, first_is, is_next, ◌⨾◌, token}
use Rattle.meaning.specs.OperatorTokens.{operator_token, unary_token, literal_token, is_dot, can_begin_type}
use Rattle.meaning.specs.Grammar.{Position, as_type, as_expression, as_value, as_element, as_constraint, operand, channel, end_of_name, in_parentheses, SpellsExpression}
use Rattle.meaning.specs.TreeExamples.{begin, guard_text}
use Rattle.meaning.proofs.Spelled.{spelling}
use Rattle.meaning.proofs.FirstTokens.{begins, leaves, type_begins}

is_name_token : TokenKind → Bool
is_name_token name_token = true
is_name_token _ = false

is_opening : TokenKind → Bool
is_opening LeftParenthesis = true
is_opening _ = false

-- a token of another kind is not the next one
not_next : {kind : TokenKind} {from to : Cursor} (test : TokenKind → Bool)
    → is_next test from ≡ true
    → TakesToken kind from to
    → test kind ≡ false
    → ⊥
not_next test e taking f = true≢false (sym e ∙ begins test taking ∙ f)

abbrev tokens : List Token
tokens = (begin guard_text).left

no_name : {kind : TokenKind} {to : Cursor} {A : Type 0}
    → TakesToken kind (begin guard_text) to
    → is_name_token kind ≡ false
    → A
unfolding is_name_token
no_name taking e = absurd (not_next is_name_token refl taking e)

-- behind the name stands a dot, and then a bracket
no_dot : {kind : TokenKind} {from to : Cursor} {A : Type 0}
    → from.left ≡ drop 1 tokens
    → TakesToken kind from to
    → is_dot kind ≡ false
    → A
no_dot e taking f = absurd (not_next is_dot (ap (first_is is_dot) e) taking f)

operator_is_no_dot : (op : BinaryOperator) → is_dot (operator_token op) ≡ false
operator_is_no_dot LogicalOr = refl
operator_is_no_dot _ = refl

unary_is_no_name : (op : UnaryOperator) → is_name_token (unary_token op) ≡ false
unfolding is_name_token
unary_is_no_name Plus = refl
unary_is_no_name _ = refl

literal_is_no_name : (kind : BasicLitKind) → is_name_token (literal_token kind) ≡ false
unfolding is_name_token
literal_is_no_name Number = refl
literal_is_no_name _ = refl

name_ends : (edition : Edition) (place : Position) (from to : Cursor) → end_of_name edition place from to → to.left ≡ from.left
name_ends edition as_type from to h = ap (λ c. c.left) (sym (h.1.0 ∙ h.2.0))
name_ends edition as_expression from to h = ap (λ c. c.left) (sym h)
name_ends edition as_value from to h = ap (λ c. c.left) (sym h)
name_ends edition as_element from to h = ap (λ c. c.left) (sym h)
name_ends edition as_constraint from to h = ap (λ c. c.left) (sym h)

no_channel : (place : Position) (direction : ChanDirection) (to : Cursor)
    → channel place direction (begin guard_text) to
    → ⊥
unfolding is_name_token
no_channel place Both to h = no_name h.1 refl
no_channel place Send to h = no_name h.1 refl
no_channel as_type Receive to h = no_name h.1 refl
no_channel as_expression Receive to h = h
no_channel as_value Receive to h = h
no_channel as_element Receive to h = h
no_channel as_constraint Receive to h = h

-- the word `type` begins no type
no_assertion : (text : GoText) (t : Expression) (from to : Cursor)
    → from.left ≡ drop 1 tokens
    → (token Dot ⨾ in_parentheses (SpellsExpression text as_type t)) from to
    → ⊥
no_assertion text t from to e h =
    let behind_dot = leaves h.1 ∙ ap (drop 1) e in
    let inside = leaves h.2.1 ∙ ap (drop 1) behind_dot in
    true≢false (sym (type_begins text t h.2.0 h.2.2.0 h.2.2.1) ∙ ap (first_is can_begin_type) inside)

pub name_alone : (text : GoText) (place : Position) (e : Expression) (to : Cursor)
    → SpellsExpression text place e (begin guard_text) to
    → to.left ≡ drop 1 tokens
unfolding spelling is_name_token is_opening
name_alone text place (expression_node (name_expression name) span) to h = name_ends text.edition place h.0.0 to h.0.2 ∙ leaves h.0.1.0
name_alone text place (expression_node (basic_literal kind) span) to h = no_name h.0.1 (literal_is_no_name kind)
name_alone text place (expression_node (function_literal signature ss braces) span) to h = no_name h.0.1.1 refl
name_alone text place (expression_node (composite_literal t es) span) to h =
    no_dot (name_alone text as_type t h.0.1.1.0 h.0.1.1.1) h.0.1.1.2.1 refl
name_alone text place (expression_node (literal_value es) span) to h = no_name h.0.1.1 refl
name_alone text place (expression_node (key_value k v) span) to h =
    no_dot (name_alone text as_value k h.0.1.0 h.0.1.1) h.0.1.2.1 refl
name_alone text place (expression_node (parenthesized e) span) to h = no_name h.0.1 refl
name_alone text place (expression_node (selector_expression e n) span) to h =
    let operand = name_alone text as_expression e h.0.1.0 h.0.1.1 in
    absurd (not_next is_opening (ap (first_is is_opening) (leaves h.0.1.2.1 ∙ ap (drop 1) operand)) h.0.1.2.2.1.0.0 refl)
name_alone text place (expression_node (index_expression e i) span) to h =
    no_dot (name_alone text as_expression e h.0.1.1.0 h.0.1.1.1) h.0.1.1.2.1 refl
name_alone text place (expression_node (instance_expression e es) span) to h =
    no_dot (name_alone text as_expression e h.0.1.1.1.0 h.0.1.1.1.1) h.0.1.1.1.2.1 refl
name_alone text place (expression_node (slice_expression e low high most) span) to h =
    no_dot (name_alone text as_expression e h.0.1.1.0 h.0.1.1.1) h.0.1.1.2.1 refl
name_alone text place (expression_node (type_assertion e t) span) to h =
    absurd (no_assertion text t h.0.1.1.0 to (name_alone text as_expression e h.0.1.1.0 h.0.1.1.1) h.0.1.1.2)
name_alone text place (expression_node (call_expression e es ellipsis) span) to h =
    no_dot (name_alone text as_expression e h.0.1.1.0 h.0.1.1.1) h.0.1.1.2.1 refl
name_alone text place (expression_node (star_expression e) span) to h = no_name h.0.1.1 refl
name_alone text place (expression_node (unary_expression op e) span) to h = no_name h.0.1.1.1 (unary_is_no_name op)
name_alone text place (expression_node (binary_expression op l r) span) to h =
    no_dot (name_alone text (operand place) l h.0.1.1.0 h.0.1.1.1) h.0.1.1.2.1 (operator_is_no_dot op)
name_alone text place (expression_node (array_type n t) span) to h = no_name h.0.1.1 refl
name_alone text place (expression_node (ellipsis_array_type t) span) to h = no_name h.0.1.1 refl
name_alone text place (expression_node (slice_type t) span) to h = no_name h.0.1.1 refl
name_alone text place (expression_node (map_type k t) span) to h = no_name h.0.1 refl
name_alone text place (expression_node (channel_type direction t) span) to h =
    absurd (no_channel place direction h.0.0 h.0.1)
name_alone text place (expression_node (function_type signature) span) to h = no_name h.0.1 refl
name_alone text place (expression_node (struct_type fs) span) to h = no_name h.0.1 refl
name_alone text place (expression_node (interface_type fs) span) to h = no_name h.0.1 refl

pub no_guard : (text : GoText) (e t : Expression) (span : Span) (to : Cursor)
    → SpellsExpression text as_expression (expression_node (type_assertion e t) span) (begin guard_text) to
    → ⊥
unfolding spelling
no_guard text e t span to h = no_assertion text t h.0.1.1.0 to (name_alone text as_expression e h.0.1.1.0 h.0.1.1.1) h.0.1.1.2
