-- What is spelled takes tokens: an expression, a type and a statement that is kept take one at least.
use Rattle.std.proofs.Common.{◌≡◌, ℕ, ◌≤◌, ◌<◌, Bool, true, false, List, [], ◌∷◌, length, Option, Some, None, ap, arith, inl, inr}
use Rattle.lexer.specs.declared.token.TokenKind.{TokenKind}
use Rattle.tree.specs.declared.span.Span.{Span}
use Rattle.tree.specs.declared.operator.BinaryOperator.{BinaryOperator}
use Rattle.tree.specs.declared.operator.BinaryOperator.TheVariants.{Add, Subtract, Or, Xor, Multiply, Divide, Remainder, ShiftLeft, ShiftRight, And, AndNot}
use Rattle.tree.specs.declared.operator.ChanDirection.{ChanDirection}
use Rattle.tree.specs.declared.operator.ChanDirection.TheVariants.{Both, Send, Receive}
use Rattle.tree.specs.declared.operator.DeclKeyword.{DeclKeyword}
use Rattle.tree.specs.Syntax.{Identifier, TypeName, Expression, expression_node, ExpressionForm, name_expression, basic_literal, function_literal, composite_literal, literal_value, key_value, parenthesized, selector_expression, index_expression, slice_expression, type_assertion, call_expression, star_expression, unary_expression, binary_expression, array_type, ellipsis_array_type, slice_type, map_type, channel_type, function_type, struct_type, interface_type, Expressions, no_expression, expression_and, OptionalExpression, missing_expression, present_expression, Signature, signature_of, Parameters, no_parameter, named_and, unnamed_and, name_alone_and, Fields, no_field, fields_and, embedded_and, method_and, Statement, statement_node, StatementForm, empty_statement, declaration_statement, labeled_statement, expression_statement, send_statement, increment_statement, decrement_statement, assignment, operator_assignment, define_statement, go_statement, defer_statement, return_statement, break_statement, continue_statement, block_statement, if_statement, for_statement, range_assignment, range_definition, switch_statement, type_switch_statement, select_statement, Statements, no_statement, statement_and, OptionalStatement, missing_statement, present_statement, CaseClauses, no_case, case_and, CommunicationClauses, no_communication, communication_and, Declaration, declaration_of, Specs, no_spec, value_and, type_and, instance_expression, element_and, goto_statement, fallthrough_statement}
use Rattle.meaning.specs.Cursor.{GoText, Cursor, Rule, ◌⨾◌, ◌⇒◌, nothing, never, one_of, optional, chosen, token, string_token, not_before, semicolon, TakesSemicolon, Semicolons, no_semicolon, semicolon_and, spanning, identifier, optional_identifier, more_identifiers, identifiers}
use Rattle.meaning.specs.OperatorTokens.{assign_operator}
use Rattle.meaning.specs.WellFormed.{IsKept}
use Rattle.meaning.specs.Grammar.{Position, as_type, as_expression, as_value, as_element, end_of_name, end_of_type, channel, arguments, perhaps, inside, of_struct, of_interface, elements, third_bound, guard_name, initial, range_left, case_head, communication_head, form_of, Owner, optional_tag, before_item, after_items, qualifier, type_name, SpellsExpression, SpellsForm, SpellsExpressions, SpellsMore, SpellsOptional, SpellsSignature, SpellsResult, SpellsItems, SpellsFields, SpellsStatement, SpellsStatementForm, SpellsOptionalStatement, SpellsElse, SpellsStatements, SpellsCases, SpellsCommunications, SpellsDeclaration, SpellsSpecs, as_constraint, IsSecond, after_instance, operand, end_of_selector, element_place, type_parameters, parameters_stand, length_stands, no_type_parameters, after_type_name, SpellsTypeParameters}
use Rattle.tree.specs.declared.edition.Edition.{Edition}
use Rattle.tree.specs.declared.edition.Edition.TheVariants.{First, Second}
use Rattle.meaning.specs.TypeParameters.{is_one_parameter}

abbrev pub NoLonger : Rule → Type 0
NoLonger rule = (from to : Cursor) → rule from to → length to.left ≤ length from.left

abbrev pub Shorter : Rule → Type 0
Shorter rule = (from to : Cursor) → rule from to → length to.left < length from.left

pub weak : {rule : Rule} → Shorter rule → NoLonger rule
weak h from to s = omega (arith, h from to s)

pub both : {first second : Rule} → NoLonger first → NoLonger second → NoLonger (first ⨾ second)
both h k from to s = omega (arith, h from s.0 s.1, k s.0 to s.2)

pub first_then : {first second : Rule} → Shorter first → NoLonger second → Shorter (first ⨾ second)
first_then h k from to s = omega (arith, h from s.0 s.1, k s.0 to s.2)

pub then_last : {first second : Rule} → NoLonger first → Shorter second → Shorter (first ⨾ second)
then_last h k from to s = omega (arith, h from s.0 s.1, k s.0 to s.2)

pub where_no_longer : {fact : Type 0} {rule : Rule} → NoLonger rule → NoLonger (fact ⇒ rule)
where_no_longer h from to s = h from to s.1

pub spanning_shorter : {span : Span} {rule : Rule} → Shorter rule → Shorter (spanning span rule)
spanning_shorter h from to s = h from to s.0

pub spanning_no_longer : {span : Span} {rule : Rule} → NoLonger rule → NoLonger (spanning span rule)
spanning_no_longer h from to s = h from to s.0

pub same_length : NoLonger nothing
same_length from to p = omega (arith, ap (λ (place : Cursor). length place.left) p)

pub never_longer : NoLonger never
never_longer from to s = absurd s

pub never_shorter : Shorter never
never_shorter from to s = absurd s

pub not_before_longest : (test : TokenKind → Bool) → NoLonger (not_before test)
not_before_longest test from to s = same_length from to s.0

pub token_shorter : (kind : TokenKind) → Shorter (token kind)
token_shorter kind from to t = omega (arith, ap length t.taken)

pub one_shorter : {first second : Rule} → Shorter first → Shorter second → Shorter (one_of first second)
one_shorter h k from to (inl s) = h from to s
one_shorter h k from to (inr s) = k from to s

pub optional_longest : {rule : Rule} → NoLonger rule → NoLonger (optional rule)
optional_longest h from to (inl s) = same_length from to s
optional_longest h from to (inr s) = h from to s

pub chosen_longest : (b : Bool) {first second : Rule}
    → NoLonger first
    → NoLonger second
    → NoLonger (chosen b first second)
chosen_longest true h k = h
chosen_longest false h k = k

pub enclosed : (first last : TokenKind) {inner : Rule} → NoLonger inner → Shorter (token first ⨾ inner ⨾ token last)
enclosed first last h = first_then (token_shorter first) (both h (weak (token_shorter last)))

pub string_shorter : Shorter string_token
string_shorter = one_shorter (token_shorter _) (token_shorter _)

pub takes_semicolon_shorter : (from to : Cursor) → TakesSemicolon from to → length to.left < length from.left
takes_semicolon_shorter from to t = omega (arith, ap length t.taken)

pub semicolon_longest : NoLonger semicolon
semicolon_longest from to (inl t) = omega (arith, takes_semicolon_shorter from to t)
semicolon_longest from to (inr s) = same_length from to s.0

pub semicolons_longest : {from to : Cursor} → Semicolons from to → length to.left ≤ length from.left
semicolons_longest no_semicolon = omega arith
semicolons_longest (semicolon_and t more) = omega (arith, takes_semicolon_shorter _ _ t, semicolons_longest more)

pub identifier_shorter : (text : GoText) (n : Identifier) → Shorter (identifier text n)
identifier_shorter text n from to s = token_shorter _ from to s.0.0

pub optional_identifier_longest : (text : GoText) (n : Option Identifier) → NoLonger (optional_identifier text n)
optional_identifier_longest text None = same_length
optional_identifier_longest text (Some n) = weak (identifier_shorter text n)

pub more_identifiers_longest : (text : GoText) (ns : List Identifier) → NoLonger (more_identifiers text ns)
more_identifiers_longest text [] = same_length
more_identifiers_longest text (n ∷ ns) =
    both (weak (token_shorter _)) (both (weak (identifier_shorter text n)) (more_identifiers_longest text ns))

pub identifiers_shorter : (text : GoText) (ns : List Identifier) → Shorter (identifiers text ns)
identifiers_shorter text [] = never_shorter
identifiers_shorter text (n ∷ ns) = first_then (identifier_shorter text n) (more_identifiers_longest text ns)

end_of_name_longest : (edition : Edition) (place : Position) → NoLonger (end_of_name edition place)
end_of_name_longest edition as_type = both (not_before_longest _) (not_before_longest _)
end_of_name_longest edition as_expression = same_length
end_of_name_longest edition as_value = same_length
end_of_name_longest edition as_element = same_length
end_of_name_longest edition as_constraint = same_length

end_of_selector_longest : (edition : Edition) (place : Position) → NoLonger (end_of_selector edition place)
end_of_selector_longest edition as_type = not_before_longest _
end_of_selector_longest edition as_expression = same_length
end_of_selector_longest edition as_value = same_length
end_of_selector_longest edition as_element = same_length
end_of_selector_longest edition as_constraint = same_length

pub after_instance_longest : (es : Expressions) → NoLonger (after_instance es)
after_instance_longest no_expression = optional_longest (weak (token_shorter _))
after_instance_longest (expression_and e no_expression) = weak (token_shorter _)
after_instance_longest (expression_and e (expression_and f es)) = optional_longest (weak (token_shorter _))

pub type_parameters_longest : (allowed : Type 0) (ps : Parameters) {list : Rule}
    → NoLonger list
    → NoLonger (type_parameters allowed ps list)
type_parameters_longest allowed no_parameter h = same_length
type_parameters_longest allowed (named_and n ellipsis t ps) h =
    where_no_longer (where_no_longer (weak (enclosed _ _ h)))
type_parameters_longest allowed (unnamed_and ellipsis t ps) h =
    where_no_longer (where_no_longer (weak (enclosed _ _ h)))
type_parameters_longest allowed (name_alone_and n ps) h = where_no_longer (where_no_longer (weak (enclosed _ _ h)))

parameters_stand_longest : (stand : Bool) → NoLonger (parameters_stand stand)
parameters_stand_longest stand from to s = same_length from to s.0

one_longest : {first second : Rule} → NoLonger first → NoLonger second → NoLonger (one_of first second)
one_longest h k from to (inl s) = h from to s
one_longest h k from to (inr s) = k from to s

length_stands_longest : (form : ExpressionForm) → NoLonger (length_stands form)
length_stands_longest (array_type n t) = where_no_longer (parameters_stand_longest false)
length_stands_longest (name_expression name) = same_length
length_stands_longest _ = same_length

no_type_parameters_longest : (edition : Edition) (is_alias : Bool) (t : Expression)
    → NoLonger (no_type_parameters edition is_alias t)
no_type_parameters_longest First is_alias t = same_length
no_type_parameters_longest Second true t = same_length
no_type_parameters_longest Second false (expression_node form span) = length_stands_longest form

parameters_or_not : (ps : Parameters)
    → NoLonger (one_of (parameters_stand true) ((is_one_parameter ps ≡ true) ⇒ parameters_stand false))
parameters_or_not ps =
    one_longest (parameters_stand_longest true) (where_no_longer (parameters_stand_longest false))

pub after_type_name_longest : (edition : Edition) (ps : Parameters) (is_alias : Bool) (t : Expression) {list : Rule}
    → NoLonger list
    → NoLonger (after_type_name edition ps is_alias t list)
after_type_name_longest edition no_parameter is_alias t h = no_type_parameters_longest edition is_alias t
after_type_name_longest edition (named_and n ellipsis c ps) is_alias t h =
    both (parameters_or_not (named_and n ellipsis c ps))
    (type_parameters_longest (IsSecond edition) (named_and n ellipsis c ps) h)
after_type_name_longest edition (unnamed_and ellipsis c ps) is_alias t h =
    both (parameters_or_not (unnamed_and ellipsis c ps))
    (type_parameters_longest (IsSecond edition) (unnamed_and ellipsis c ps) h)
after_type_name_longest edition (name_alone_and n ps) is_alias t h =
    both (parameters_or_not (name_alone_and n ps))
    (type_parameters_longest (IsSecond edition) (name_alone_and n ps) h)

end_of_type_longest : (place : Position) → NoLonger (end_of_type place)
end_of_type_longest as_type = same_length
end_of_type_longest as_expression = not_before_longest _
end_of_type_longest as_value = not_before_longest _
end_of_type_longest as_element = not_before_longest _
end_of_type_longest as_constraint = not_before_longest _

channel_shorter : (place : Position) (direction : ChanDirection) → Shorter (channel place direction)
channel_shorter place Both = first_then (token_shorter _) (not_before_longest _)
channel_shorter place Send = first_then (token_shorter _) (weak (token_shorter _))
channel_shorter as_type Receive = first_then (token_shorter _) (weak (token_shorter _))
channel_shorter place Receive = never_shorter

pub arguments_longest : (es : Expressions) (ellipsis : Bool) {list : Rule}
    → NoLonger list
    → NoLonger (arguments es ellipsis list)
arguments_longest no_expression true h = never_longer
arguments_longest no_expression false h = same_length
arguments_longest (expression_and e es) ellipsis h =
    both h (both (chosen_longest ellipsis (weak (token_shorter _)) same_length)
    (optional_longest (weak (token_shorter _))))

pub perhaps_longest : (es : Expressions) {list : Rule} → NoLonger list → NoLonger (perhaps es list)
perhaps_longest no_expression h = same_length
perhaps_longest (expression_and e es) h = h

pub elements_longest : (es : Expressions) {list : Rule} → NoLonger list → NoLonger (elements es list)
elements_longest no_expression h = same_length
elements_longest (expression_and e es) h = both h (optional_longest (weak (token_shorter _)))

pub third_bound_longest : (e : OptionalExpression) {bound : Rule} → NoLonger bound → NoLonger (third_bound e bound)
third_bound_longest missing_expression h = same_length
third_bound_longest (present_expression e) h = both (weak (token_shorter _)) h

guard_name_longest : (text : GoText) (n : Option Identifier) → NoLonger (guard_name text n)
guard_name_longest text None = same_length
guard_name_longest text (Some n) = both (weak (identifier_shorter text n)) (weak (token_shorter _))

initial_longest : (s : OptionalStatement) (has_semicolon : Bool) {rule : Rule}
    → NoLonger rule
    → NoLonger (initial s has_semicolon rule)
initial_longest missing_statement false h = same_length
initial_longest missing_statement true h = semicolon_longest
initial_longest (present_statement s) false h = never_longer
initial_longest (present_statement s) true h = both h semicolon_longest

range_left_longest : (es : Expressions) {list : Rule} → NoLonger list → NoLonger (range_left es list)
range_left_longest no_expression h = same_length
range_left_longest (expression_and e es) h = both h (weak (token_shorter _))

case_head_longest : (es : Expressions) {list : Rule} → NoLonger list → NoLonger (case_head es list)
case_head_longest no_expression h = weak (token_shorter _)
case_head_longest (expression_and e es) h = both (weak (token_shorter _)) h

communication_head_longest : (s : OptionalStatement) {rule : Rule}
    → NoLonger rule
    → NoLonger (communication_head s rule)
communication_head_longest missing_statement h = weak (token_shorter _)
communication_head_longest (present_statement s) h = both (weak (token_shorter _)) h

pub optional_tag_longest : (tag : Option Span) → NoLonger (optional_tag tag)
optional_tag_longest None = same_length
optional_tag_longest (Some span) = spanning_no_longer (weak string_shorter)

before_item_longest : (first : Bool) → NoLonger (before_item first)
before_item_longest true = same_length
before_item_longest false = weak (token_shorter _)

after_items_longest : (first : Bool) → NoLonger (after_items first)
after_items_longest true = same_length
after_items_longest false = optional_longest (weak (token_shorter _))

assign_operator_longest : (op : BinaryOperator) → NoLonger (assign_operator op)
assign_operator_longest Add = weak (token_shorter _)
assign_operator_longest Subtract = weak (token_shorter _)
assign_operator_longest Or = weak (token_shorter _)
assign_operator_longest Xor = weak (token_shorter _)
assign_operator_longest Multiply = weak (token_shorter _)
assign_operator_longest Divide = weak (token_shorter _)
assign_operator_longest Remainder = weak (token_shorter _)
assign_operator_longest ShiftLeft = weak (token_shorter _)
assign_operator_longest ShiftRight = weak (token_shorter _)
assign_operator_longest And = weak (token_shorter _)
assign_operator_longest AndNot = weak (token_shorter _)
assign_operator_longest op = never_longer

qualifier_longest : (text : GoText) (n : Option Identifier) → NoLonger (qualifier text n)
qualifier_longest text None = same_length
qualifier_longest text (Some n) = both (weak (identifier_shorter text n)) (weak (token_shorter _))

pub type_name_shorter : (text : GoText) (n : TypeName) → Shorter (type_name text n)
type_name_shorter text n =
    spanning_shorter (then_last (qualifier_longest text n.qualifier) (identifier_shorter text n.name))

module _ (text : GoText) where
  form_longest : (form : StatementForm)
      → (IsKept form → Shorter (SpellsStatementForm text form))
      → NoLonger (SpellsStatementForm text form)
  unfolding SpellsStatementForm
  form_longest empty_statement h = same_length
  form_longest form h = weak (h tt)

  mutual
    unfolding SpellsExpression SpellsForm SpellsExpressions SpellsMore SpellsOptional SpellsSignature SpellsResult
        SpellsItems SpellsTypeParameters SpellsFields SpellsStatement SpellsStatementForm SpellsOptionalStatement SpellsElse SpellsStatements
        SpellsCases SpellsCommunications SpellsDeclaration SpellsSpecs

    pub expression_shorter : (place : Position) (e : Expression) → Shorter (SpellsExpression text place e)
    expression_shorter place (expression_node form span) = spanning_shorter (form_shorter place form)

    form_shorter : (place : Position) (form : ExpressionForm) → Shorter (SpellsForm text place form)
    form_shorter place (name_expression name) from to s =
        omega (arith, token_shorter _ from s.0 s.1.0, end_of_name_longest text.edition place s.0 to s.2)
    form_shorter place (basic_literal kind) from to s = token_shorter _ from to s.1
    form_shorter place (function_literal signature ss braces) from to s =
        first_then (token_shorter _)
        (both (signature_longest signature) (spanning_no_longer (weak (enclosed _ _ (statements_longest ss))))) from
        to s.1
    form_shorter place (composite_literal t es) from to s =
        first_then (expression_shorter as_type t)
        (weak (enclosed _ _ (elements_longest es (expressions_longest as_element es)))) from to s.1.1
    form_shorter place (literal_value es) from to s =
        enclosed _ _ (elements_longest es (expressions_longest as_element es)) from to s.1
    form_shorter place (key_value k v) from to s =
        first_then (expression_shorter as_value k)
        (both (weak (token_shorter _)) (weak (expression_shorter as_value v))) from to s.1
    form_shorter place (parenthesized e) from to s = enclosed _ _ (weak (expression_shorter (inside place) e)) from to s
    form_shorter place (selector_expression e n) from to s =
        first_then (expression_shorter as_expression e)
        (both (weak (token_shorter _))
        (both (weak (identifier_shorter text n)) (end_of_selector_longest text.edition place))) from to s.1
    form_shorter place (index_expression e i) from to s =
        first_then (expression_shorter as_expression e)
        (weak (enclosed _ _ (weak (expression_shorter as_expression i)))) from to s.1.1
    form_shorter place (instance_expression e es) from to s =
        first_then (expression_shorter as_expression e)
        (weak (enclosed _ _ (both (expressions_longest as_expression es) (after_instance_longest es)))) from to s.1.1.1
    form_shorter place (slice_expression e low high most) from to s =
        first_then (expression_shorter as_expression e)
        (weak (enclosed _ _ (both (optional_expression_longest low)
        (both (weak (token_shorter _))
        (both (optional_expression_longest high) (third_bound_longest most (optional_expression_longest most)))))))
        from to s.1.1
    form_shorter place (type_assertion e t) from to s =
        first_then (expression_shorter as_expression e)
        (both (weak (token_shorter _)) (weak (enclosed _ _ (weak (expression_shorter as_type t))))) from to s.1.1
    form_shorter place (call_expression e es ellipsis) from to s =
        first_then (expression_shorter as_expression e)
        (weak (enclosed _ _ (arguments_longest es ellipsis (expressions_longest as_expression es)))) from to s.1.1
    form_shorter place (star_expression e) from to s =
        first_then (token_shorter _) (weak (expression_shorter (inside place) e)) from to s.1
    form_shorter place (unary_expression op e) from to s =
        first_then (token_shorter _) (weak (expression_shorter as_expression e)) from to s.1.1
    form_shorter place (binary_expression op l r) from to s =
        first_then (expression_shorter (operand place) l)
        (both (weak (token_shorter _)) (weak (expression_shorter (operand place) r))) from to s.1.1
    form_shorter place (array_type n t) from to s =
        first_then (enclosed _ _ (weak (expression_shorter as_expression n)))
        (both (weak (expression_shorter as_type t)) (end_of_type_longest place)) from to s
    form_shorter place (ellipsis_array_type t) from to s =
        first_then (enclosed _ _ (weak (token_shorter _)))
        (both (weak (expression_shorter as_type t)) (end_of_type_longest place)) from to s
    form_shorter place (slice_type t) from to s =
        first_then (enclosed _ _ same_length)
        (both (weak (expression_shorter as_type t)) (end_of_type_longest place)) from to s
    form_shorter place (map_type k t) from to s =
        first_then (token_shorter _)
        (both (weak (enclosed _ _ (weak (expression_shorter as_type k))))
        (both (weak (expression_shorter as_type t)) (end_of_type_longest place))) from to s
    form_shorter place (channel_type direction t) from to s =
        first_then (channel_shorter place direction)
        (both (weak (expression_shorter as_type t)) (end_of_type_longest place)) from to s
    form_shorter place (function_type signature) from to s =
        first_then (token_shorter _) (both (signature_longest signature) (end_of_type_longest place)) from to s
    form_shorter place (struct_type fs) from to s =
        first_then (token_shorter _)
        (both (weak (enclosed _ _ (fields_longest of_struct fs))) (end_of_type_longest place)) from to s
    form_shorter place (interface_type fs) from to s =
        first_then (token_shorter _)
        (both (weak (enclosed _ _ (fields_longest of_interface fs))) (end_of_type_longest place)) from to s

    pub expressions_longest : (place : Position) (es : Expressions) → NoLonger (SpellsExpressions text place es)
    expressions_longest place no_expression = never_longer
    expressions_longest place (expression_and e es) = both (weak (expression_shorter place e)) (more_longest place es)

    pub more_longest : (place : Position) (es : Expressions) → NoLonger (SpellsMore text place es)
    more_longest place no_expression = same_length
    more_longest place (expression_and e es) =
        both (weak (token_shorter _)) (both (weak (expression_shorter place e)) (more_longest place es))

    pub optional_expression_longest : (e : OptionalExpression) → NoLonger (SpellsOptional text as_expression e)
    optional_expression_longest missing_expression = same_length
    optional_expression_longest (present_expression e) = weak (expression_shorter as_expression e)

    pub optional_type_longest : (e : OptionalExpression) → NoLonger (SpellsOptional text as_type e)
    optional_type_longest missing_expression = same_length
    optional_type_longest (present_expression e) = weak (expression_shorter as_type e)

    pub signature_longest : (signature : Signature) → NoLonger (SpellsSignature text signature)
    signature_longest (signature_of ps rs brackets) =
        where_no_longer (both (weak (enclosed _ _ (items_longest true ps)))
        (chosen_longest brackets (where_no_longer (weak (enclosed _ _ (items_longest true rs))))
        (result_longest rs)))

    result_longest : (rs : Parameters) → NoLonger (SpellsResult text rs)
    result_longest no_parameter = not_before_longest _
    result_longest (unnamed_and ellipsis t ps) =
        where_no_longer (where_no_longer (where_no_longer (weak (expression_shorter as_type t))))
    result_longest (named_and n ellipsis t ps) = never_longer
    result_longest (name_alone_and n ps) = never_longer

    pub items_longest : (first : Bool) (ps : Parameters) → NoLonger (SpellsItems text first ps)
    items_longest first no_parameter = after_items_longest first
    items_longest first (named_and n ellipsis t ps) =
        both (before_item_longest first)
        (both (weak (identifier_shorter text n))
        (both (chosen_longest ellipsis (weak (token_shorter _)) same_length)
        (both (weak (expression_shorter as_type t)) (items_longest false ps))))
    items_longest first (unnamed_and ellipsis t ps) =
        both (before_item_longest first)
        (both (chosen_longest ellipsis (weak (token_shorter _)) same_length)
        (both (weak (expression_shorter as_type t)) (items_longest false ps)))
    items_longest first (name_alone_and n ps) =
        both (before_item_longest first) (both (weak (identifier_shorter text n)) (items_longest false ps))

    pub type_items_longest : (first : Bool) (ps : Parameters) → NoLonger (SpellsTypeParameters text first ps)
    type_items_longest first no_parameter = after_items_longest first
    type_items_longest first (named_and n ellipsis t ps) =
        where_no_longer (where_no_longer (both (before_item_longest first)
        (both (weak (identifier_shorter text n))
        (both (weak (expression_shorter as_constraint t)) (type_items_longest false ps)))))
    type_items_longest first (unnamed_and ellipsis t ps) = never_longer
    type_items_longest first (name_alone_and n ps) =
        both (before_item_longest first) (both (weak (identifier_shorter text n)) (type_items_longest false ps))

    pub fields_longest : (owner : Owner) (fs : Fields) → NoLonger (SpellsFields text owner fs)
    fields_longest owner no_field = same_length
    fields_longest owner (fields_and ns t tag span fs) =
        where_no_longer (both
        (spanning_no_longer (both (weak (identifiers_shorter text ns))
        (both (weak (expression_shorter as_type t)) (optional_tag_longest tag))))
        (both semicolon_longest (fields_longest owner fs)))
    fields_longest owner (embedded_and star n tag span fs) =
        where_no_longer (both
        (spanning_no_longer (both (chosen_longest star (weak (token_shorter _)) same_length)
        (both (weak (type_name_shorter text n)) (optional_tag_longest tag))))
        (both semicolon_longest (fields_longest owner fs)))
    fields_longest owner (element_and star t tag span fs) =
        where_no_longer (both
        (spanning_no_longer (both (chosen_longest star (weak (token_shorter _)) same_length)
        (both (weak (expression_shorter (element_place owner) t)) (optional_tag_longest tag))))
        (both semicolon_longest (fields_longest owner fs)))
    fields_longest owner (method_and n signature span fs) =
        where_no_longer (both
        (spanning_no_longer (both (weak (identifier_shorter text n)) (signature_longest signature)))
        (both semicolon_longest (fields_longest owner fs)))

    pub statement_longest : (s : Statement) → NoLonger (SpellsStatement text s)
    statement_longest (statement_node form span) from to s = form_longest form (statement_form_shorter form) from to s.0

    statement_form_shorter : (form : StatementForm) → IsKept form → Shorter (SpellsStatementForm text form)
    statement_form_shorter empty_statement h from to s = absurd h
    statement_form_shorter (declaration_statement d) h from to s = declaration_shorter d from to s
    statement_form_shorter (labeled_statement n inner) h from to s =
        first_then (identifier_shorter text n) (both (weak (token_shorter _)) (statement_longest inner)) from to s
    statement_form_shorter (expression_statement e) h from to s = expression_shorter as_expression e from to s
    statement_form_shorter (send_statement c v) h from to s =
        first_then (expression_shorter as_expression c)
        (both (weak (token_shorter _)) (weak (expression_shorter as_expression v))) from to s
    statement_form_shorter (increment_statement e) h from to s =
        first_then (expression_shorter as_expression e) (weak (token_shorter _)) from to s
    statement_form_shorter (decrement_statement e) h from to s =
        first_then (expression_shorter as_expression e) (weak (token_shorter _)) from to s
    statement_form_shorter (assignment ls rs) h from to s =
        then_last (expressions_longest as_expression ls)
        (first_then (token_shorter _) (expressions_longest as_expression rs)) from to s
    statement_form_shorter (operator_assignment op l r) h from to s =
        first_then (expression_shorter as_expression l)
        (both (assign_operator_longest op) (weak (expression_shorter as_expression r))) from to s
    statement_form_shorter (define_statement ns rs) h from to s =
        first_then (identifiers_shorter text ns)
        (both (weak (token_shorter _)) (expressions_longest as_expression rs)) from to s
    statement_form_shorter (go_statement e) h from to s =
        first_then (token_shorter _) (weak (expression_shorter as_expression e)) from to s.1
    statement_form_shorter (defer_statement e) h from to s =
        first_then (token_shorter _) (weak (expression_shorter as_expression e)) from to s.1
    statement_form_shorter (return_statement es) h from to s =
        first_then (token_shorter _) (perhaps_longest es (expressions_longest as_expression es)) from to s
    statement_form_shorter (break_statement n) h from to s =
        first_then (token_shorter _) (optional_identifier_longest text n) from to s
    statement_form_shorter (continue_statement n) h from to s =
        first_then (token_shorter _) (optional_identifier_longest text n) from to s
    statement_form_shorter (goto_statement n) h from to s =
        first_then (token_shorter _) (weak (identifier_shorter text n)) from to s.1
    statement_form_shorter fallthrough_statement h from to s = token_shorter _ from to s.1
    statement_form_shorter (block_statement ss braces) h from to s = enclosed _ _ (statements_longest ss) from to s.0
    statement_form_shorter (if_statement init has_semicolon c ss braces otherwise) h from to s =
        first_then (token_shorter _)
        (both (initial_longest init has_semicolon (optional_statement_longest init))
        (both (weak (expression_shorter as_expression c))
        (both (spanning_no_longer (weak (enclosed _ _ (statements_longest ss)))) (else_longest otherwise)))) from to
        s.1.1
    statement_form_shorter (for_statement init c post has_semicolons ss braces) h from to s =
        first_then (token_shorter _)
        (both (chosen_longest has_semicolons
        (both (optional_statement_longest init)
        (both semicolon_longest
        (both (optional_expression_longest c) (both semicolon_longest (optional_statement_longest post)))))
        (where_no_longer (where_no_longer (optional_expression_longest c))))
        (spanning_no_longer (weak (enclosed _ _ (statements_longest ss))))) from to s.1.1.1
    statement_form_shorter (range_assignment ls e ss braces) h from to s =
        first_then (token_shorter _)
        (both (range_left_longest ls (expressions_longest as_expression ls))
        (both (weak (token_shorter _))
        (both (weak (expression_shorter as_expression e))
        (spanning_no_longer (weak (enclosed _ _ (statements_longest ss))))))) from to s.1.1
    statement_form_shorter (range_definition ns e ss braces) h from to s =
        first_then (token_shorter _)
        (both (weak (identifiers_shorter text ns))
        (both (weak (token_shorter _))
        (both (weak (token_shorter _))
        (both (weak (expression_shorter as_expression e))
        (spanning_no_longer (weak (enclosed _ _ (statements_longest ss)))))))) from to s.1
    statement_form_shorter (switch_statement init has_semicolon tag cs) h from to s =
        first_then (token_shorter _)
        (both (initial_longest init has_semicolon (optional_statement_longest init))
        (both (optional_expression_longest tag) (weak (enclosed _ _ (cases_longest cs))))) from to s.1.1
    statement_form_shorter (type_switch_statement init has_semicolon n e cs) h from to s =
        first_then (token_shorter _)
        (both (initial_longest init has_semicolon (optional_statement_longest init))
        (both (guard_name_longest text n)
        (both (weak (expression_shorter as_expression e))
        (both (weak (token_shorter _))
        (both (weak (enclosed _ _ (weak (token_shorter _)))) (weak (enclosed _ _ (cases_longest cs)))))))) from to
        s.1.1.1
    statement_form_shorter (select_statement cs) h from to s =
        first_then (token_shorter _) (weak (enclosed _ _ (communications_longest cs))) from to s

    pub optional_statement_longest : (s : OptionalStatement) → NoLonger (SpellsOptionalStatement text s)
    optional_statement_longest missing_statement = same_length
    optional_statement_longest (present_statement s) = statement_longest s

    else_longest : (s : OptionalStatement) → NoLonger (SpellsElse text s)
    else_longest missing_statement = same_length
    else_longest (present_statement s) = where_no_longer (both (weak (token_shorter _)) (statement_longest s))

    pub statements_longest : (ss : Statements) → NoLonger (SpellsStatements text ss)
    statements_longest no_statement from to s = semicolons_longest s
    statements_longest (statement_and first ss) from to s =
        omega (
          arith,
          semicolons_longest s.1,
          statement_longest first s.0 s.2.0 s.2.1.1,
          semicolon_longest s.2.0
              s.2.2.0 s.2.2.1,
          statements_longest ss s.2.2.0 to s.2.2.2,
        )

    pub cases_longest : (cs : CaseClauses) → NoLonger (SpellsCases text cs)
    cases_longest no_case = same_length
    cases_longest (case_and es ss span cs) =
        both (spanning_no_longer
        (both (case_head_longest es (expressions_longest as_expression es))
        (both (weak (token_shorter _)) (statements_longest ss)))) (cases_longest cs)

    pub communications_longest : (cs : CommunicationClauses) → NoLonger (SpellsCommunications text cs)
    communications_longest no_communication = same_length
    communications_longest (communication_and c ss span cs) =
        where_no_longer (both
        (spanning_no_longer (both (communication_head_longest c (optional_statement_longest c))
        (both (weak (token_shorter _)) (statements_longest ss)))) (communications_longest cs))

    pub declaration_shorter : (d : Declaration) → Shorter (SpellsDeclaration text d)
    declaration_shorter (declaration_of keyword specs is_grouped span) =
        spanning_shorter (first_then (token_shorter _)
        (chosen_longest is_grouped (weak (enclosed _ _ (specs_longest keyword true specs)))
        (specs_longest keyword false specs)))

    pub specs_longest : (keyword : DeclKeyword) (is_grouped : Bool) (specs : Specs)
        → NoLonger (SpellsSpecs text keyword is_grouped specs)
    specs_longest keyword is_grouped no_spec = chosen_longest is_grouped same_length never_longer
    specs_longest keyword is_grouped (value_and ns t es span specs) =
        where_no_longer (both
        (spanning_no_longer (both (weak (identifiers_shorter text ns))
        (both (optional_type_longest t)
        (perhaps_longest es (both (weak (token_shorter _)) (expressions_longest as_expression es))))))
        (chosen_longest is_grouped (both semicolon_longest (specs_longest keyword true specs))
        (where_no_longer same_length)))
    specs_longest keyword is_grouped (type_and n ps is_alias t span specs) =
        where_no_longer (both
        (spanning_no_longer (both (weak (identifier_shorter text n))
        (both (after_type_name_longest text.edition ps is_alias t (type_items_longest true ps))
        (both (chosen_longest is_alias (weak (token_shorter _)) same_length)
        (weak (expression_shorter as_type t))))))
        (chosen_longest is_grouped (both semicolon_longest (specs_longest keyword true specs))
        (where_no_longer same_length)))

  pub statement_shorter : (s : Statement) → IsKept (form_of s) → Shorter (SpellsStatement text s)
  unfolding SpellsStatement
  statement_shorter (statement_node form span) h from to s = statement_form_shorter form h from to s.0
