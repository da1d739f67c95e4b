-- The first token of what a rule takes.
use Rattle.std.proofs.Common.{◌≡◌, Bool, true, drop, sym, ap, true≢false}
use Rattle.lexer.specs.declared.token.TokenKind.{TokenKind}
use Rattle.tree.specs.declared.operator.ChanDirection.TheVariants.{Both, Send, Receive}
use Rattle.tree.specs.declared.operator.UnaryOperator.TheVariants.{Tilde}
use Rattle.tree.specs.Syntax.{Expression, expression_node, name_expression, basic_literal, function_literal, composite_literal, literal_value, key_value, parenthesized, selector_expression, index_expression, instance_expression, slice_expression, type_assertion, call_expression, star_expression, unary_expression, binary_expression, array_type, ellipsis_array_type, slice_type, map_type, channel_type, function_type, struct_type, interface_type}
use Rattle.meaning.specs.Cursor.{GoText, Cursor, TakesToken, first_is, is_next}
use Rattle.meaning.specs.OperatorTokens.{can_begin_type}
use Rattle.meaning.specs.WellFormed.{names_type}
use Rattle.meaning.specs.Grammar.{as_type, as_expression, as_element, as_constraint, SpellsExpression}
use Rattle.meaning.proofs.Spelled.{spelling}

-- the token that is taken is the first one that is left, and the others are left
pub begins : {kind : TokenKind} {from to : Cursor} (test : TokenKind → Bool)
    → TakesToken kind from to
    → is_next test from ≡ test kind
begins test taking = ap (first_is test) taking.taken

pub leaves : {kind : TokenKind} {from to : Cursor} → TakesToken kind from to → to.left ≡ drop 1 from.left
leaves taking = sym (ap (drop 1) taking.taken)

-- a type's name begins so, wherever it stands
named_begins : (text : GoText) (e : Expression) (from to : Cursor)
    → names_type e ≡ true
    → SpellsExpression text as_expression e from to
    → is_next can_begin_type from ≡ true
unfolding spelling
named_begins text (expression_node (name_expression name) span) from to named h = begins can_begin_type h.0.1.0
named_begins text (expression_node (selector_expression (expression_node (name_expression name) at) n) span) from to named h =
    begins can_begin_type h.0.1.1.0.1.0
named_begins text (expression_node (selector_expression e n) span) from to named h = absurd (true≢false (sym named))
named_begins text (expression_node form span) from to named h = absurd (true≢false (sym named))

-- a type begins with a token that can begin types
pub type_begins : (text : GoText) (t : Expression) (from to : Cursor)
    → SpellsExpression text as_type t from to
    → is_next can_begin_type from ≡ true
unfolding spelling
type_begins text (expression_node (name_expression name) span) from to h = begins can_begin_type h.0.1.0
type_begins text (expression_node (basic_literal kind) span) from to h = absurd h.0.0
type_begins text (expression_node (function_literal signature ss braces) span) from to h = absurd h.0.0
type_begins text (expression_node (composite_literal t es) span) from to h = absurd h.0.0
type_begins text (expression_node (literal_value es) span) from to h = absurd h.0.0
type_begins text (expression_node (key_value k v) span) from to h = let e : as_type ≡ as_element = h.0.0 in cc
type_begins text (expression_node (parenthesized e) span) from to h = begins can_begin_type h.0.1
type_begins text (expression_node (selector_expression (expression_node (name_expression name) at) n) span) from to h =
    begins can_begin_type h.0.1.1.0.1.0
type_begins text (expression_node (selector_expression e n) span) from to h = absurd (true≢false (sym h.0.0))
type_begins text (expression_node (index_expression e i) span) from to h =
    named_begins text e from h.0.1.1.0 h.0.0.1 h.0.1.1.1
type_begins text (expression_node (instance_expression e es) span) from to h =
    named_begins text e from h.0.1.1.1.0 h.0.1.0.1 h.0.1.1.1.1
type_begins text (expression_node (slice_expression e low high most) span) from to h = absurd h.0.0
type_begins text (expression_node (type_assertion e t) span) from to h = absurd h.0.0
type_begins text (expression_node (call_expression e es ellipsis) span) from to h = absurd h.0.0
type_begins text (expression_node (star_expression e) span) from to h = begins can_begin_type h.0.1.1
type_begins text (expression_node (unary_expression Tilde e) span) from to h = let e : as_type ≡ as_constraint = h.0.0 in cc
type_begins text (expression_node (unary_expression op e) span) from to h = absurd h.0.0
type_begins text (expression_node (binary_expression op l r) span) from to h = absurd h.0.0
type_begins text (expression_node (array_type n t) span) from to h = begins can_begin_type h.0.1.1
type_begins text (expression_node (ellipsis_array_type t) span) from to h = begins can_begin_type h.0.1.1
type_begins text (expression_node (slice_type t) span) from to h = begins can_begin_type h.0.1.1
type_begins text (expression_node (map_type k t) span) from to h = begins can_begin_type h.0.1
type_begins text (expression_node (channel_type Both t) span) from to h = begins can_begin_type h.0.1.1
type_begins text (expression_node (channel_type Send t) span) from to h = begins can_begin_type h.0.1.1
type_begins text (expression_node (channel_type Receive t) span) from to h = begins can_begin_type h.0.1.1
type_begins text (expression_node (function_type signature) span) from to h = begins can_begin_type h.0.1
type_begins text (expression_node (struct_type fs) span) from to h = begins can_begin_type h.0.1
type_begins text (expression_node (interface_type fs) span) from to h = begins can_begin_type h.0.1
