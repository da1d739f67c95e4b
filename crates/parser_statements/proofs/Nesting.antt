-- What is spelled opens and closes brackets in pairs, and an expression has neither a comma nor `~` outside of them. So
-- it has no say in whether one of these stands outside all brackets.
use Rattle.std.proofs.Common.{◌≡◌, ℕ, zero, suc, Bool, true, false, true≢false, List, [], ◌∷◌, Option, Some, None, refl, sym, ap, ◌∙◌, subst, inl, inr}
use Rattle.lexer.specs.declared.token.Token.{Token}
use Rattle.lexer.specs.declared.token.TokenKind.{TokenKind}
use Rattle.lexer.specs.declared.token.TokenKind.TheVariants.{Identifier as identifier_kind, InterpretedString, RawString, BreakKeyword, CaseKeyword, ChanKeyword, ContinueKeyword, DefaultKeyword, DeferKeyword, ElseKeyword, FallthroughKeyword, ForKeyword, FuncKeyword, GoKeyword, GotoKeyword, IfKeyword, InterfaceKeyword, MapKeyword, RangeKeyword, ReturnKeyword, SelectKeyword, StructKeyword, SwitchKeyword, TypeKeyword, Plus as plus_token, Minus, Star, Ampersand, Caret, Bang, Arrow, Increment, Decrement, PlusAssign, MinusAssign, StarAssign, SlashAssign, PercentAssign, AmpersandAssign, PipeAssign, CaretAssign, ShiftLeftAssign, ShiftRightAssign, AndNotAssign, Assign, Define, Ellipsis, LeftParenthesis, RightParenthesis, LeftBracket, RightBracket, LeftBrace, RightBrace, Comma, Semicolon, Dot, Colon, Tilde as tilde_token}
use Rattle.tree.specs.declared.edition.Edition.{Edition}
use Rattle.tree.specs.declared.edition.Edition.TheVariants.{First, Second}
use Rattle.tree.specs.declared.span.Span.{Span}
use Rattle.tree.specs.declared.operator.BasicLitKind.{BasicLitKind}
use Rattle.tree.specs.declared.operator.BasicLitKind.TheVariants.{Number}
use Rattle.tree.specs.declared.operator.BinaryOperator.{BinaryOperator}
use Rattle.tree.specs.declared.operator.BinaryOperator.TheVariants.{Add, Subtract, Or, Xor, Multiply, Divide, Remainder, ShiftLeft, ShiftRight, And, AndNot}
use Rattle.tree.specs.declared.operator.UnaryOperator.{UnaryOperator}
use Rattle.tree.specs.declared.operator.UnaryOperator.TheVariants.{Plus, Negate, Not, Complement, Address, Receive as receive_operator, Tilde}
use Rattle.tree.specs.declared.operator.ChanDirection.{ChanDirection}
use Rattle.tree.specs.declared.operator.ChanDirection.TheVariants.{Both, Send, Receive}
use Rattle.tree.specs.declared.operator.DeclKeyword.{DeclKeyword}
use Rattle.tree.specs.declared.operator.DeclKeyword.TheVariants.{Const}
use Rattle.tree.specs.Syntax.{Identifier, TypeName, Expression, expression_node, ExpressionForm, name_expression, basic_literal, function_literal, composite_literal, literal_value, key_value, parenthesized, selector_expression, index_expression, instance_expression, slice_expression, type_assertion, call_expression, star_expression, unary_expression, binary_expression, array_type, ellipsis_array_type, slice_type, map_type, channel_type, function_type, struct_type, interface_type, Expressions, no_expression, expression_and, OptionalExpression, missing_expression, present_expression, Signature, signature_of, Parameters, no_parameter, named_and, unnamed_and, name_alone_and, Fields, no_field, fields_and, embedded_and, element_and, method_and, Statement, statement_node, StatementForm, empty_statement, declaration_statement, labeled_statement, expression_statement, send_statement, increment_statement, decrement_statement, assignment, operator_assignment, define_statement, go_statement, defer_statement, return_statement, break_statement, continue_statement, goto_statement, fallthrough_statement, block_statement, if_statement, for_statement, range_assignment, range_definition, switch_statement, type_switch_statement, select_statement, Statements, no_statement, statement_and, OptionalStatement, missing_statement, present_statement, CaseClauses, no_case, case_and, CommunicationClauses, no_communication, communication_and, Declaration, declaration_of, Specs, no_spec, value_and, type_and}
use Rattle.meaning.specs.Cursor.{GoText, Cursor, Rule, ◌⨾◌, ◌⇒◌, nothing, never, one_of, optional, chosen, token, string_token, not_before, semicolon, semicolons, TakesSemicolon, Semicolons, no_semicolon, semicolon_and, spanning, identifier, optional_identifier, more_identifiers, identifiers}
use Rattle.meaning.specs.OperatorTokens.{operator_token, assign_operator, unary_token, literal_token, keyword_token}
use Rattle.meaning.specs.TypeParameters.{has_separator, is_one_parameter}
use Rattle.meaning.specs.Grammar.{Position, as_type, as_expression, as_value, as_element, as_constraint, inside, operand, CanOperate, end_of_name, end_of_selector, end_of_type, IsSecond, after_instance, channel, arguments, perhaps, in_parentheses, in_brackets, in_braces, elements, third_bound, guard_name, initial, range_left, case_head, communication_head, Owner, of_struct, of_interface, optional_tag, before_item, after_items, element_place, type_parameters, parameters_stand, length_stands, no_type_parameters, after_type_name, qualifier, type_name, SpellsExpression, SpellsForm, SpellsExpressions, SpellsMore, SpellsOptional, SpellsSignature, SpellsResult, SpellsItems, SpellsTypeParameters, SpellsFields, SpellsStatement, SpellsStatementForm, SpellsOptionalStatement, SpellsElse, SpellsStatements, SpellsCases, SpellsCommunications, SpellsDeclaration, SpellsSpecs}

-- The rule has no say, in so many brackets.
pub record Keeps (n : ℕ) (rule : Rule) : Type 0 where
  pub keeps : (from to : Cursor) → rule from to → has_separator n from.left ≡ has_separator n to.left

-- such a token is none of a bracket, and outside of brackets it separates nothing
abbrev is_inner : TokenKind → Bool
is_inner LeftParenthesis = false
is_inner LeftBracket = false
is_inner LeftBrace = false
is_inner RightParenthesis = false
is_inner RightBracket = false
is_inner RightBrace = false
is_inner kind = true

abbrev is_plain : TokenKind → Bool
is_plain Comma = false
is_plain tilde_token = false
is_plain kind = is_inner kind

past_inner : (n : ℕ) (kind : TokenKind) (start end : ℕ) (rest : List Token)
    → is_inner kind ≡ true
    → has_separator (suc n) (record { kind = kind; start = start; end = end } ∷ rest) ≡ has_separator (suc n) rest
unfolding has_separator
past_inner n LeftParenthesis start end rest e = absurd (true≢false (sym e))
past_inner n LeftBracket start end rest e = absurd (true≢false (sym e))
past_inner n LeftBrace start end rest e = absurd (true≢false (sym e))
past_inner n RightParenthesis start end rest e = absurd (true≢false (sym e))
past_inner n RightBracket start end rest e = absurd (true≢false (sym e))
past_inner n RightBrace start end rest e = absurd (true≢false (sym e))
past_inner n _ start end rest e = refl

past_plain : (n : ℕ) (kind : TokenKind) (start end : ℕ) (rest : List Token)
    → is_plain kind ≡ true
    → has_separator n (record { kind = kind; start = start; end = end } ∷ rest) ≡ has_separator n rest
unfolding has_separator
past_plain zero Comma start end rest e = absurd (true≢false (sym e))
past_plain zero tilde_token start end rest e = absurd (true≢false (sym e))
past_plain zero LeftParenthesis start end rest e = absurd (true≢false (sym e))
past_plain zero LeftBracket start end rest e = absurd (true≢false (sym e))
past_plain zero LeftBrace start end rest e = absurd (true≢false (sym e))
past_plain zero RightParenthesis start end rest e = absurd (true≢false (sym e))
past_plain zero RightBracket start end rest e = absurd (true≢false (sym e))
past_plain zero RightBrace start end rest e = absurd (true≢false (sym e))
past_plain zero _ start end rest e = refl
past_plain (suc n) Comma start end rest e = absurd (true≢false (sym e))
past_plain (suc n) tilde_token start end rest e = absurd (true≢false (sym e))
past_plain (suc n) kind start end rest e = past_inner n kind start end rest e

-- one step of a bracket
opened_parenthesis : (n start end : ℕ) (rest : List Token)
    → has_separator n (record { kind = LeftParenthesis; start = start; end = end } ∷ rest) ≡ has_separator (suc n) rest
unfolding has_separator
opened_parenthesis zero start end rest = refl
opened_parenthesis (suc n) start end rest = refl

opened_bracket : (n start end : ℕ) (rest : List Token)
    → has_separator n (record { kind = LeftBracket; start = start; end = end } ∷ rest) ≡ has_separator (suc n) rest
unfolding has_separator
opened_bracket zero start end rest = refl
opened_bracket (suc n) start end rest = refl

opened_brace : (n start end : ℕ) (rest : List Token)
    → has_separator n (record { kind = LeftBrace; start = start; end = end } ∷ rest) ≡ has_separator (suc n) rest
unfolding has_separator
opened_brace zero start end rest = refl
opened_brace (suc n) start end rest = refl

closed_parenthesis : (n start end : ℕ) (rest : List Token)
    → has_separator (suc n) (record { kind = RightParenthesis; start = start; end = end } ∷ rest) ≡ has_separator n rest
unfolding has_separator
closed_parenthesis n start end rest = refl

closed_bracket : (n start end : ℕ) (rest : List Token)
    → has_separator (suc n) (record { kind = RightBracket; start = start; end = end } ∷ rest) ≡ has_separator n rest
unfolding has_separator
closed_bracket n start end rest = refl

closed_brace : (n start end : ℕ) (rest : List Token)
    → has_separator (suc n) (record { kind = RightBrace; start = start; end = end } ∷ rest) ≡ has_separator n rest
unfolding has_separator
closed_brace n start end rest = refl

-- rules that are put together
still : (n : ℕ) {from to : Cursor} → from ≡ to → has_separator n from.left ≡ has_separator n to.left
still n p = ap (λ (place : Cursor). has_separator n place.left) p

plain : {n : ℕ} (kind : TokenKind) → is_plain kind ≡ true → Keeps n (token kind)
plain {n} kind e = record {
  keeps = λ from to t. ap (has_separator n) t.taken ∙ past_plain n kind t.start to.end to.left e;
}

inner : {n : ℕ} (kind : TokenKind) → is_inner kind ≡ true → Keeps (suc n) (token kind)
inner {n} kind e = record {
  keeps = λ from to t. ap (has_separator (suc n)) t.taken ∙ past_inner n kind t.start to.end to.left e;
}

-- what is spelled by a rule where the other one stands
under : {n : ℕ} {rule whole : Rule}
    → Keeps n rule
    → ((from to : Cursor) → whole from to → rule from to)
    → Keeps n whole
under h part = record { keeps = λ from to s. h.keeps from to (part from to s) }

both : {n : ℕ} {first second : Rule} → Keeps n first → Keeps n second → Keeps n (first ⨾ second)
both h k = record { keeps = λ from to s. h.keeps from s.0 s.1 ∙ k.keeps s.0 to s.2 }

where_kept : {n : ℕ} {fact : Type 0} {rule : Rule} → Keeps n rule → Keeps n (fact ⇒ rule)
where_kept h = record { keeps = λ from to s. h.keeps from to s.1 }

span_kept : {n : ℕ} {span : Span} {rule : Rule} → Keeps n rule → Keeps n (spanning span rule)
span_kept h = record { keeps = λ from to s. h.keeps from to s.0 }

none_kept : {n : ℕ} → Keeps n nothing
none_kept {n} = record { keeps = λ from to p. still n p }

never_kept : {n : ℕ} → Keeps n never
never_kept = record { keeps = λ from to s. absurd s }

not_before_kept : {n : ℕ} (test : TokenKind → Bool) → Keeps n (not_before test)
not_before_kept {n} test = record { keeps = λ from to s. still n s.0 }

one_kept : {n : ℕ} {first second : Rule} → Keeps n first → Keeps n second → Keeps n (one_of first second)
one_kept {n} {first} {second} h k = record { keeps = by_case } where
  by_case : (from to : Cursor)
      → one_of first second from to
      → has_separator n from.left ≡ has_separator n to.left
  by_case from to (inl s) = h.keeps from to s
  by_case from to (inr s) = k.keeps from to s

optional_kept : {n : ℕ} {rule : Rule} → Keeps n rule → Keeps n (optional rule)
optional_kept h = one_kept none_kept h

chosen_kept : {n : ℕ} (b : Bool) {first second : Rule}
    → Keeps n first
    → Keeps n second
    → Keeps n (chosen b first second)
chosen_kept true h k = h
chosen_kept false h k = k

round : {n : ℕ} {rule : Rule} → Keeps (suc n) rule → Keeps n (in_parentheses rule)
round {n} h = record {
  keeps = λ from to s.
      (ap (has_separator n) s.1.taken ∙ opened_parenthesis n s.1.start s.0.end s.0.left)
      ∙ (h.keeps s.0 s.2.0 s.2.1
      ∙ (ap (has_separator (suc n)) s.2.2.taken ∙ closed_parenthesis n s.2.2.start to.end to.left));
}

square : {n : ℕ} {rule : Rule} → Keeps (suc n) rule → Keeps n (in_brackets rule)
square {n} h = record {
  keeps = λ from to s.
      (ap (has_separator n) s.1.taken ∙ opened_bracket n s.1.start s.0.end s.0.left)
      ∙ (h.keeps s.0 s.2.0 s.2.1
      ∙ (ap (has_separator (suc n)) s.2.2.taken ∙ closed_bracket n s.2.2.start to.end to.left));
}

braced : {n : ℕ} {rule : Rule} → Keeps (suc n) rule → Keeps n (in_braces rule)
braced {n} h = record {
  keeps = λ from to s.
      (ap (has_separator n) s.1.taken ∙ opened_brace n s.1.start s.0.end s.0.left)
      ∙ (h.keeps s.0 s.2.0 s.2.1
      ∙ (ap (has_separator (suc n)) s.2.2.taken ∙ closed_brace n s.2.2.start to.end to.left));
}

comma : {n : ℕ} → Keeps (suc n) (token Comma)
comma = inner Comma refl

-- outside of brackets it separates
pub comma_separates : (from to : Cursor) → token Comma from to → has_separator 0 from.left ≡ true
unfolding has_separator
comma_separates from to t = ap (has_separator 0) t.taken

string_kept : {n : ℕ} → Keeps n string_token
string_kept = one_kept (plain InterpretedString refl) (plain RawString refl)

past_semicolon : (n : ℕ) (from to : Cursor) → TakesSemicolon from to → has_separator n from.left ≡ has_separator n to.left
past_semicolon n from to t = ap (has_separator n) t.taken ∙ past_plain n Semicolon t.start t.stop to.left refl

semicolon_kept : {n : ℕ} → Keeps n semicolon
semicolon_kept {n} = record { keeps = by_case } where
  by_case : (from to : Cursor) → semicolon from to → has_separator n from.left ≡ has_separator n to.left
  by_case from to (inl t) = past_semicolon n from to t
  by_case from to (inr s) = still n s.0

past_semicolons : (n : ℕ) {from to : Cursor} → Semicolons from to → has_separator n from.left ≡ has_separator n to.left
past_semicolons n no_semicolon = refl
past_semicolons n (semicolon_and t more) = past_semicolon n _ _ t ∙ past_semicolons n more

semicolons_kept : {n : ℕ} → Keeps n semicolons
semicolons_kept {n} = record { keeps = λ from to s. past_semicolons n s }

identifier_kept : {n : ℕ} (text : GoText) (name : Identifier) → Keeps n (identifier text name)
identifier_kept text name = under (plain identifier_kind refl) (λ from to s. s.0.0)

optional_identifier_kept : {n : ℕ} (text : GoText) (name : Option Identifier) → Keeps n (optional_identifier text name)
optional_identifier_kept text None = none_kept
optional_identifier_kept text (Some name) = identifier_kept text name

more_identifiers_kept : {n : ℕ} (text : GoText) (names : List Identifier) → Keeps (suc n) (more_identifiers text names)
more_identifiers_kept text [] = none_kept
more_identifiers_kept text (name ∷ names) =
    both comma (both (identifier_kept text name) (more_identifiers_kept text names))

identifiers_kept : {n : ℕ} (text : GoText) (names : List Identifier) → Keeps (suc n) (identifiers text names)
identifiers_kept text [] = never_kept
identifiers_kept text (name ∷ names) = both (identifier_kept text name) (more_identifiers_kept text names)

end_of_name_kept : {n : ℕ} (edition : Edition) (place : Position) → Keeps n (end_of_name edition place)
end_of_name_kept edition as_type = both (not_before_kept _) (not_before_kept _)
end_of_name_kept edition as_expression = none_kept
end_of_name_kept edition as_value = none_kept
end_of_name_kept edition as_element = none_kept
end_of_name_kept edition as_constraint = none_kept

end_of_selector_kept : {n : ℕ} (edition : Edition) (place : Position) → Keeps n (end_of_selector edition place)
end_of_selector_kept edition as_type = not_before_kept _
end_of_selector_kept edition as_expression = none_kept
end_of_selector_kept edition as_value = none_kept
end_of_selector_kept edition as_element = none_kept
end_of_selector_kept edition as_constraint = none_kept

end_of_type_kept : {n : ℕ} (place : Position) → Keeps n (end_of_type place)
end_of_type_kept as_type = none_kept
end_of_type_kept as_expression = not_before_kept _
end_of_type_kept as_value = not_before_kept _
end_of_type_kept as_element = not_before_kept _
end_of_type_kept as_constraint = not_before_kept _

after_instance_kept : {n : ℕ} (es : Expressions) → Keeps (suc n) (after_instance es)
after_instance_kept no_expression = optional_kept comma
after_instance_kept (expression_and e no_expression) = comma
after_instance_kept (expression_and e (expression_and f es)) = optional_kept comma

type_parameters_kept : {n : ℕ} (allowed : Type 0) (ps : Parameters) {list : Rule}
    → Keeps (suc n) list
    → Keeps n (type_parameters allowed ps list)
type_parameters_kept allowed no_parameter h = none_kept
type_parameters_kept allowed (named_and n ellipsis t ps) h = where_kept (where_kept (square h))
type_parameters_kept allowed (unnamed_and ellipsis t ps) h = where_kept (where_kept (square h))
type_parameters_kept allowed (name_alone_and n ps) h = where_kept (where_kept (square h))

parameters_stand_kept : {n : ℕ} (stand : Bool) → Keeps n (parameters_stand stand)
parameters_stand_kept {n} stand = record { keeps = λ from to s. still n s.0 }

length_stands_kept : {n : ℕ} (form : ExpressionForm) → Keeps n (length_stands form)
length_stands_kept (array_type m t) = where_kept (parameters_stand_kept false)
length_stands_kept (name_expression name) = none_kept
length_stands_kept _ = none_kept

no_type_parameters_kept : {n : ℕ} (edition : Edition) (is_alias : Bool) (t : Expression)
    → Keeps n (no_type_parameters edition is_alias t)
no_type_parameters_kept First is_alias t = none_kept
no_type_parameters_kept Second true t = none_kept
no_type_parameters_kept Second false (expression_node form span) = length_stands_kept form

parameters_or_not : {n : ℕ} (ps : Parameters)
    → Keeps n (one_of (parameters_stand true) ((is_one_parameter ps ≡ true) ⇒ parameters_stand false))
parameters_or_not ps = one_kept (parameters_stand_kept true) (where_kept (parameters_stand_kept false))

after_type_name_kept : {n : ℕ} (edition : Edition) (ps : Parameters) (is_alias : Bool) (t : Expression) {list : Rule}
    → Keeps (suc n) list
    → Keeps n (after_type_name edition ps is_alias t list)
after_type_name_kept edition no_parameter is_alias t h = no_type_parameters_kept edition is_alias t
after_type_name_kept edition (named_and name ellipsis c ps) is_alias t h =
    both (parameters_or_not (named_and name ellipsis c ps))
    (type_parameters_kept (IsSecond edition) (named_and name ellipsis c ps) h)
after_type_name_kept edition (unnamed_and ellipsis c ps) is_alias t h =
    both (parameters_or_not (unnamed_and ellipsis c ps))
    (type_parameters_kept (IsSecond edition) (unnamed_and ellipsis c ps) h)
after_type_name_kept edition (name_alone_and name ps) is_alias t h =
    both (parameters_or_not (name_alone_and name ps))
    (type_parameters_kept (IsSecond edition) (name_alone_and name ps) h)

channel_kept : {n : ℕ} (place : Position) (direction : ChanDirection) → Keeps n (channel place direction)
channel_kept place Both = both (plain ChanKeyword refl) (not_before_kept _)
channel_kept place Send = both (plain ChanKeyword refl) (plain Arrow refl)
channel_kept as_type Receive = both (plain Arrow refl) (plain ChanKeyword refl)
channel_kept place Receive = never_kept

arguments_kept : {n : ℕ} (es : Expressions) (ellipsis : Bool) {list : Rule}
    → Keeps (suc n) list
    → Keeps (suc n) (arguments es ellipsis list)
arguments_kept no_expression true h = never_kept
arguments_kept no_expression false h = none_kept
arguments_kept (expression_and e es) ellipsis h =
    both h (both (chosen_kept ellipsis (plain Ellipsis refl) none_kept) (optional_kept comma))

perhaps_kept : {n : ℕ} (es : Expressions) {list : Rule} → Keeps n list → Keeps n (perhaps es list)
perhaps_kept no_expression h = none_kept
perhaps_kept (expression_and e es) h = h

elements_kept : {n : ℕ} (es : Expressions) {list : Rule} → Keeps (suc n) list → Keeps (suc n) (elements es list)
elements_kept no_expression h = none_kept
elements_kept (expression_and e es) h = both h (optional_kept comma)

third_bound_kept : {n : ℕ} (e : OptionalExpression) {bound : Rule} → Keeps n bound → Keeps n (third_bound e bound)
third_bound_kept missing_expression h = none_kept
third_bound_kept (present_expression e) h = both (plain Colon refl) h

guard_name_kept : {n : ℕ} (text : GoText) (name : Option Identifier) → Keeps n (guard_name text name)
guard_name_kept text None = none_kept
guard_name_kept text (Some name) = both (identifier_kept text name) (plain Define refl)

initial_kept : {n : ℕ} (s : OptionalStatement) (has_semicolon : Bool) {rule : Rule}
    → Keeps n rule
    → Keeps n (initial s has_semicolon rule)
initial_kept missing_statement false h = none_kept
initial_kept missing_statement true h = semicolon_kept
initial_kept (present_statement s) false h = never_kept
initial_kept (present_statement s) true h = both h semicolon_kept

range_left_kept : {n : ℕ} (es : Expressions) {list : Rule} → Keeps n list → Keeps n (range_left es list)
range_left_kept no_expression h = none_kept
range_left_kept (expression_and e es) h = both h (plain Assign refl)

case_head_kept : {n : ℕ} (es : Expressions) {list : Rule} → Keeps n list → Keeps n (case_head es list)
case_head_kept no_expression h = plain DefaultKeyword refl
case_head_kept (expression_and e es) h = both (plain CaseKeyword refl) h

communication_head_kept : {n : ℕ} (s : OptionalStatement) {rule : Rule}
    → Keeps n rule
    → Keeps n (communication_head s rule)
communication_head_kept missing_statement h = plain DefaultKeyword refl
communication_head_kept (present_statement s) h = both (plain CaseKeyword refl) h

optional_tag_kept : {n : ℕ} (tag : Option Span) → Keeps n (optional_tag tag)
optional_tag_kept None = none_kept
optional_tag_kept (Some span) = span_kept string_kept

before_item_kept : {n : ℕ} (first : Bool) → Keeps (suc n) (before_item first)
before_item_kept true = none_kept
before_item_kept false = comma

after_items_kept : {n : ℕ} (first : Bool) → Keeps (suc n) (after_items first)
after_items_kept true = none_kept
after_items_kept false = optional_kept comma

assign_operator_kept : {n : ℕ} (op : BinaryOperator) → Keeps n (assign_operator op)
assign_operator_kept Add = plain PlusAssign refl
assign_operator_kept Subtract = plain MinusAssign refl
assign_operator_kept Or = plain PipeAssign refl
assign_operator_kept Xor = plain CaretAssign refl
assign_operator_kept Multiply = plain StarAssign refl
assign_operator_kept Divide = plain SlashAssign refl
assign_operator_kept Remainder = plain PercentAssign refl
assign_operator_kept ShiftLeft = plain ShiftLeftAssign refl
assign_operator_kept ShiftRight = plain ShiftRightAssign refl
assign_operator_kept And = plain AmpersandAssign refl
assign_operator_kept AndNot = plain AndNotAssign refl
assign_operator_kept op = never_kept

operator_plain : (op : BinaryOperator) → is_plain (operator_token op) ≡ true
operator_plain Add = refl
operator_plain _ = refl

literal_plain : (kind : BasicLitKind) → is_plain (literal_token kind) ≡ true
literal_plain Number = refl
literal_plain _ = refl

keyword_plain : (keyword : DeclKeyword) → is_plain (keyword_token keyword) ≡ true
keyword_plain Const = refl
keyword_plain _ = refl

qualifier_kept : {n : ℕ} (text : GoText) (name : Option Identifier) → Keeps n (qualifier text name)
qualifier_kept text None = none_kept
qualifier_kept text (Some name) = both (identifier_kept text name) (plain Dot refl)

type_name_kept : {n : ℕ} (text : GoText) (name : TypeName) → Keeps n (type_name text name)
type_name_kept text name = span_kept (both (qualifier_kept text name.qualifier) (identifier_kept text name.name))

-- `~` stands in brackets, or not here
abbrev pub CanStand : Position → ℕ → Type 0
CanStand as_type n = Unit {0}
CanStand as_expression n = Unit {0}
CanStand as_value n = Unit {0}
CanStand as_element n = Unit {0}
CanStand as_constraint zero = ⊥
CanStand as_constraint (suc n) = Unit {0}

inside_stands : (place : Position) (n : ℕ) → CanStand (inside place) n
inside_stands as_type n = tt
inside_stands as_expression n = tt
inside_stands as_value n = tt
inside_stands as_element n = tt
inside_stands as_constraint n = tt

operand_stands : (place : Position) (n : ℕ) → CanStand place n → CanStand (operand place) n
operand_stands as_type n h = tt
operand_stands as_expression n h = tt
operand_stands as_value n h = tt
operand_stands as_element n h = tt
operand_stands as_constraint n h = h

element_stands : (owner : Owner) (n : ℕ) → CanStand (element_place owner) (suc n)
element_stands of_struct n = tt
element_stands of_interface n = tt

unary_kept : (n : ℕ) (place : Position) (op : UnaryOperator)
    → CanStand place n
    → CanOperate place op
    → Keeps n (token (unary_token op))
unary_kept zero place Tilde h can = absurd (subst (λ (p : Position). CanStand p zero) can h)
unary_kept (suc n) place Tilde h can = inner tilde_token refl
unary_kept n place Plus h can = plain plus_token refl
unary_kept n place Negate h can = plain Minus refl
unary_kept n place Not h can = plain Bang refl
unary_kept n place Complement h can = plain Caret refl
unary_kept n place Address h can = plain Ampersand refl
unary_kept n place receive_operator h can = plain Arrow refl

module _ (text : GoText) where
  mutual
    unfolding SpellsExpression SpellsForm SpellsExpressions SpellsMore SpellsOptional SpellsSignature SpellsResult
        SpellsItems SpellsTypeParameters SpellsFields SpellsStatement SpellsStatementForm SpellsOptionalStatement SpellsElse SpellsStatements
        SpellsCases SpellsCommunications SpellsDeclaration SpellsSpecs

    pub expression_kept : (n : ℕ) (place : Position) (e : Expression)
        → CanStand place n
        → Keeps n (SpellsExpression text place e)
    expression_kept n place (expression_node form span) h = span_kept (form_kept n place form h)

    form_kept : (n : ℕ) (place : Position) (form : ExpressionForm)
        → CanStand place n
        → Keeps n (SpellsForm text place form)
    form_kept n place (name_expression name) h =
        under (both (plain identifier_kind refl) (end_of_name_kept text.edition place))
        (λ from to s. (s.0, s.1.0, s.2))
    form_kept n place (basic_literal kind) h =
        under (plain (literal_token kind) (literal_plain kind)) (λ from to s. s.1)
    form_kept n place (function_literal signature ss braces) h =
        under (both (plain FuncKeyword refl) (both (signature_kept n signature) (span_kept (braced (statements_kept n ss))))) (λ from to s. s.1)
    form_kept n place (composite_literal t es) h =
        under (both (expression_kept n as_type t tt) (braced (elements_kept es (expressions_kept n as_element es tt)))) (λ from to s. s.1.1)
    form_kept n place (literal_value es) h =
        under (braced (elements_kept es (expressions_kept n as_element es tt))) (λ from to s. s.1)
    form_kept n place (key_value k v) h =
        under (both (expression_kept n as_value k tt) (both (plain Colon refl) (expression_kept n as_value v tt))) (λ from to s. s.1)
    form_kept n place (parenthesized e) h =
        round (expression_kept (suc n) (inside place) e (inside_stands place (suc n)))
    form_kept n place (selector_expression e name) h =
        under (both (expression_kept n as_expression e tt)
        (both (plain Dot refl) (both (identifier_kept text name) (end_of_selector_kept text.edition place)))) (λ from to s. s.1)
    form_kept n place (index_expression e i) h =
        under (both (expression_kept n as_expression e tt) (square (expression_kept (suc n) as_expression i tt))) (λ from to s. s.1.1)
    form_kept n place (instance_expression e es) h =
        under (both (expression_kept n as_expression e tt)
        (square (both (expressions_kept n as_expression es tt) (after_instance_kept es)))) (λ from to s. s.1.1.1)
    form_kept n place (slice_expression e low high most) h =
        under (both (expression_kept n as_expression e tt)
        (square (both (optional_kept_inside n as_expression low tt)
        (both (plain Colon refl)
        (both (optional_kept_inside n as_expression high tt)
        (third_bound_kept most (optional_kept_inside n as_expression most tt))))))) (λ from to s. s.1.1)
    form_kept n place (type_assertion e t) h =
        under (both (expression_kept n as_expression e tt)
        (both (plain Dot refl) (round (expression_kept (suc n) as_type t tt)))) (λ from to s. s.1.1)
    form_kept n place (call_expression e es ellipsis) h =
        under (both (expression_kept n as_expression e tt)
        (round (arguments_kept es ellipsis (expressions_kept n as_expression es tt)))) (λ from to s. s.1.1)
    form_kept n place (star_expression e) h =
        under (both (plain Star refl) (expression_kept n (inside place) e (inside_stands place n))) (λ from to s. s.1)
    form_kept n place (unary_expression op e) h =
        record {
          keeps = λ from to s.
              (both (unary_kept n place op h s.0) (expression_kept n as_expression e tt)).keeps from to s.1.1;
        }
    form_kept n place (binary_expression op l r) h =
        under (both (expression_kept n (operand place) l (operand_stands place n h))
        (both (plain (operator_token op) (operator_plain op))
        (expression_kept n (operand place) r (operand_stands place n h)))) (λ from to s. s.1.1)
    form_kept n place (array_type m t) h =
        both (square (expression_kept (suc n) as_expression m tt))
        (both (expression_kept n as_type t tt) (end_of_type_kept place))
    form_kept n place (ellipsis_array_type t) h =
        both (square (plain Ellipsis refl)) (both (expression_kept n as_type t tt) (end_of_type_kept place))
    form_kept n place (slice_type t) h =
        both (square none_kept) (both (expression_kept n as_type t tt) (end_of_type_kept place))
    form_kept n place (map_type k t) h =
        both (plain MapKeyword refl)
        (both (square (expression_kept (suc n) as_type k tt))
        (both (expression_kept n as_type t tt) (end_of_type_kept place)))
    form_kept n place (channel_type direction t) h =
        both (channel_kept place direction) (both (expression_kept n as_type t tt) (end_of_type_kept place))
    form_kept n place (function_type signature) h =
        both (plain FuncKeyword refl) (both (signature_kept n signature) (end_of_type_kept place))
    form_kept n place (struct_type fs) h =
        both (plain StructKeyword refl) (both (braced (fields_kept n of_struct fs)) (end_of_type_kept place))
    form_kept n place (interface_type fs) h =
        both (plain InterfaceKeyword refl)
        (both (braced (fields_kept n of_interface fs)) (end_of_type_kept place))

    -- in so many brackets and one more
    expressions_kept : (n : ℕ) (place : Position) (es : Expressions)
        → CanStand place (suc n)
        → Keeps (suc n) (SpellsExpressions text place es)
    expressions_kept n place no_expression h = never_kept
    expressions_kept n place (expression_and e es) h = both (expression_kept (suc n) place e h) (more_kept n place es h)

    more_kept : (n : ℕ) (place : Position) (es : Expressions)
        → CanStand place (suc n)
        → Keeps (suc n) (SpellsMore text place es)
    more_kept n place no_expression h = none_kept
    more_kept n place (expression_and e es) h =
        both comma (both (expression_kept (suc n) place e h) (more_kept n place es h))

    optional_kept_inside : (n : ℕ) (place : Position) (e : OptionalExpression)
        → CanStand place (suc n)
        → Keeps (suc n) (SpellsOptional text place e)
    optional_kept_inside n place missing_expression h = none_kept
    optional_kept_inside n place (present_expression e) h = expression_kept (suc n) place e h

    signature_kept : (n : ℕ) (signature : Signature) → Keeps n (SpellsSignature text signature)
    signature_kept n (signature_of ps rs brackets) =
        where_kept (both (round (items_kept n true ps))
        (chosen_kept brackets (where_kept (round (items_kept n true rs))) (result_kept n rs)))

    result_kept : (n : ℕ) (rs : Parameters) → Keeps n (SpellsResult text rs)
    result_kept n no_parameter = not_before_kept _
    result_kept n (unnamed_and ellipsis t ps) = where_kept (where_kept (where_kept (expression_kept n as_type t tt)))
    result_kept n (named_and name ellipsis t ps) = never_kept
    result_kept n (name_alone_and name ps) = never_kept

    items_kept : (n : ℕ) (first : Bool) (ps : Parameters) → Keeps (suc n) (SpellsItems text first ps)
    items_kept n first no_parameter = after_items_kept first
    items_kept n first (named_and name ellipsis t ps) =
        both (before_item_kept first)
        (both (identifier_kept text name)
        (both (chosen_kept ellipsis (plain Ellipsis refl) none_kept)
        (both (expression_kept (suc n) as_type t tt) (items_kept n false ps))))
    items_kept n first (unnamed_and ellipsis t ps) =
        both (before_item_kept first)
        (both (chosen_kept ellipsis (plain Ellipsis refl) none_kept)
        (both (expression_kept (suc n) as_type t tt) (items_kept n false ps)))
    items_kept n first (name_alone_and name ps) =
        both (before_item_kept first) (both (identifier_kept text name) (items_kept n false ps))

    type_items_kept : (n : ℕ) (first : Bool) (ps : Parameters) → Keeps (suc n) (SpellsTypeParameters text first ps)
    type_items_kept n first no_parameter = after_items_kept first
    type_items_kept n first (named_and name ellipsis t ps) =
        where_kept (where_kept (both (before_item_kept first)
        (both (identifier_kept text name)
        (both (expression_kept (suc n) as_constraint t tt) (type_items_kept n false ps)))))
    type_items_kept n first (unnamed_and ellipsis t ps) = never_kept
    type_items_kept n first (name_alone_and name ps) =
        both (before_item_kept first) (both (identifier_kept text name) (type_items_kept n false ps))

    fields_kept : (n : ℕ) (owner : Owner) (fs : Fields) → Keeps (suc n) (SpellsFields text owner fs)
    fields_kept n owner no_field = none_kept
    fields_kept n owner (fields_and ns t tag span fs) =
        where_kept (both
        (span_kept (both (identifiers_kept text ns)
        (both (expression_kept (suc n) as_type t tt) (optional_tag_kept tag))))
        (both semicolon_kept (fields_kept n owner fs)))
    fields_kept n owner (embedded_and star name tag span fs) =
        where_kept (both
        (span_kept (both (chosen_kept star (plain Star refl) none_kept)
        (both (type_name_kept text name) (optional_tag_kept tag))))
        (both semicolon_kept (fields_kept n owner fs)))
    fields_kept n owner (element_and star t tag span fs) =
        where_kept (both
        (span_kept (both (chosen_kept star (plain Star refl) none_kept)
        (both (expression_kept (suc n) (element_place owner) t (element_stands owner n)) (optional_tag_kept tag))))
        (both semicolon_kept (fields_kept n owner fs)))
    fields_kept n owner (method_and name signature span fs) =
        where_kept (both
        (span_kept (both (identifier_kept text name) (signature_kept (suc n) signature)))
        (both semicolon_kept (fields_kept n owner fs)))

    statement_kept : (n : ℕ) (s : Statement) → Keeps (suc n) (SpellsStatement text s)
    statement_kept n (statement_node form span) =
        under (statement_form_kept n form) (λ from to s. s.0)

    statement_form_kept : (n : ℕ) (form : StatementForm) → Keeps (suc n) (SpellsStatementForm text form)
    statement_form_kept n empty_statement = none_kept
    statement_form_kept n (declaration_statement d) = declaration_kept n d
    statement_form_kept n (labeled_statement name labeled) =
        both (identifier_kept text name) (both (plain Colon refl) (statement_kept n labeled))
    statement_form_kept n (expression_statement e) =
        expression_kept (suc n) as_expression e tt
    statement_form_kept n (send_statement c v) =
        both (expression_kept (suc n) as_expression c tt)
        (both (plain Arrow refl) (expression_kept (suc n) as_expression v tt))
    statement_form_kept n (increment_statement e) =
        both (expression_kept (suc n) as_expression e tt) (plain Increment refl)
    statement_form_kept n (decrement_statement e) =
        both (expression_kept (suc n) as_expression e tt) (plain Decrement refl)
    statement_form_kept n (assignment ls rs) =
        both (expressions_kept n as_expression ls tt)
        (both (plain Assign refl) (expressions_kept n as_expression rs tt))
    statement_form_kept n (operator_assignment op l r) =
        both (expression_kept (suc n) as_expression l tt)
        (both (assign_operator_kept op) (expression_kept (suc n) as_expression r tt))
    statement_form_kept n (define_statement ns rs) =
        both (identifiers_kept text ns) (both (plain Define refl) (expressions_kept n as_expression rs tt))
    statement_form_kept n (go_statement e) =
        under (both (plain GoKeyword refl) (expression_kept (suc n) as_expression e tt)) (λ from to s. s.1)
    statement_form_kept n (defer_statement e) =
        under (both (plain DeferKeyword refl) (expression_kept (suc n) as_expression e tt)) (λ from to s. s.1)
    statement_form_kept n (return_statement es) =
        both (plain ReturnKeyword refl) (perhaps_kept es (expressions_kept n as_expression es tt))
    statement_form_kept n (break_statement name) =
        both (plain BreakKeyword refl) (optional_identifier_kept text name)
    statement_form_kept n (continue_statement name) =
        both (plain ContinueKeyword refl) (optional_identifier_kept text name)
    statement_form_kept n (goto_statement name) =
        under (both (plain GotoKeyword refl) (identifier_kept text name)) (λ from to s. s.1)
    statement_form_kept n fallthrough_statement =
        under (plain FallthroughKeyword refl) (λ from to s. s.1)
    statement_form_kept n (block_statement ss braces) =
        under (braced (statements_kept (suc n) ss)) (λ from to s. s.0)
    statement_form_kept n (if_statement init has_semicolon c ss braces otherwise) =
        under (both (plain IfKeyword refl)
        (both (initial_kept init has_semicolon (optional_statement_kept n init))
        (both (expression_kept (suc n) as_expression c tt)
        (both (span_kept (braced (statements_kept (suc n) ss))) (else_kept n otherwise))))) (λ from to s. s.1.1)
    statement_form_kept n (for_statement init c post has_semicolons ss braces) =
        under (both (plain ForKeyword refl)
        (both (chosen_kept has_semicolons
        (both (optional_statement_kept n init)
        (both semicolon_kept
        (both (optional_kept_inside n as_expression c tt) (both semicolon_kept (optional_statement_kept n post)))))
        (where_kept (where_kept (optional_kept_inside n as_expression c tt))))
        (span_kept (braced (statements_kept (suc n) ss))))) (λ from to s. s.1.1.1)
    statement_form_kept n (range_assignment ls e ss braces) =
        under (both (plain ForKeyword refl)
        (both (range_left_kept ls (expressions_kept n as_expression ls tt))
        (both (plain RangeKeyword refl)
        (both (expression_kept (suc n) as_expression e tt)
        (span_kept (braced (statements_kept (suc n) ss))))))) (λ from to s. s.1.1)
    statement_form_kept n (range_definition ns e ss braces) =
        under (both (plain ForKeyword refl)
        (both (identifiers_kept text ns)
        (both (plain Define refl)
        (both (plain RangeKeyword refl)
        (both (expression_kept (suc n) as_expression e tt)
        (span_kept (braced (statements_kept (suc n) ss)))))))) (λ from to s. s.1)
    statement_form_kept n (switch_statement init has_semicolon tag cs) =
        under (both (plain SwitchKeyword refl)
        (both (initial_kept init has_semicolon (optional_statement_kept n init))
        (both (optional_kept_inside n as_expression tag tt) (braced (cases_kept (suc n) cs))))) (λ from to s. s.1.1)
    statement_form_kept n (type_switch_statement init has_semicolon name e cs) =
        under (both (plain SwitchKeyword refl)
        (both (initial_kept init has_semicolon (optional_statement_kept n init))
        (both (guard_name_kept text name)
        (both (expression_kept (suc n) as_expression e tt)
        (both (plain Dot refl)
        (both (round (plain TypeKeyword refl)) (braced (cases_kept (suc n) cs)))))))) (λ from to s. s.1.1.1)
    statement_form_kept n (select_statement cs) =
        both (plain SelectKeyword refl) (braced (communications_kept (suc n) cs))

    optional_statement_kept : (n : ℕ) (s : OptionalStatement) → Keeps (suc n) (SpellsOptionalStatement text s)
    optional_statement_kept n missing_statement = none_kept
    optional_statement_kept n (present_statement s) = statement_kept n s

    else_kept : (n : ℕ) (s : OptionalStatement) → Keeps (suc n) (SpellsElse text s)
    else_kept n missing_statement = none_kept
    else_kept n (present_statement s) = where_kept (both (plain ElseKeyword refl) (statement_kept n s))

    statements_kept : (n : ℕ) (ss : Statements) → Keeps (suc n) (SpellsStatements text ss)
    statements_kept n no_statement = semicolons_kept
    statements_kept n (statement_and first ss) =
        both semicolons_kept
        (both (where_kept (statement_kept n first)) (both semicolon_kept (statements_kept n ss)))

    cases_kept : (n : ℕ) (cs : CaseClauses) → Keeps (suc n) (SpellsCases text cs)
    cases_kept n no_case = none_kept
    cases_kept n (case_and es ss span cs) =
        both (span_kept
        (both (case_head_kept es (expressions_kept n as_expression es tt))
        (both (plain Colon refl) (statements_kept n ss)))) (cases_kept n cs)

    communications_kept : (n : ℕ) (cs : CommunicationClauses) → Keeps (suc n) (SpellsCommunications text cs)
    communications_kept n no_communication = none_kept
    communications_kept n (communication_and c ss span cs) =
        where_kept (both
        (span_kept (both (communication_head_kept c (optional_statement_kept n c))
        (both (plain Colon refl) (statements_kept n ss)))) (communications_kept n cs))

    declaration_kept : (n : ℕ) (d : Declaration) → Keeps (suc n) (SpellsDeclaration text d)
    declaration_kept n (declaration_of keyword specs is_grouped span) =
        span_kept (both (plain (keyword_token keyword) (keyword_plain keyword))
        (chosen_kept is_grouped (round (specs_kept (suc n) keyword true specs)) (specs_kept n keyword false specs)))

    specs_kept : (n : ℕ) (keyword : DeclKeyword) (is_grouped : Bool) (specs : Specs)
        → Keeps (suc n) (SpellsSpecs text keyword is_grouped specs)
    specs_kept n keyword is_grouped no_spec = chosen_kept is_grouped none_kept never_kept
    specs_kept n keyword is_grouped (value_and ns t es span specs) =
        where_kept (both
        (span_kept (both (identifiers_kept text ns)
        (both (optional_kept_inside n as_type t tt)
        (perhaps_kept es (both (plain Assign refl) (expressions_kept n as_expression es tt))))))
        (chosen_kept is_grouped (both semicolon_kept (specs_kept n keyword true specs)) (where_kept none_kept)))
    specs_kept n keyword is_grouped (type_and name ps is_alias t span specs) =
        where_kept (both
        (span_kept (both (identifier_kept text name)
        (both (after_type_name_kept text.edition ps is_alias t (type_items_kept (suc n) true ps))
        (both (chosen_kept is_alias (plain Assign refl) none_kept) (expression_kept (suc n) as_type t tt)))))
        (chosen_kept is_grouped (both semicolon_kept (specs_kept n keyword true specs)) (where_kept none_kept)))
