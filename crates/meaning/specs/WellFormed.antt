-- Which trees of the grammar's forms are meant, where its rules alone leave more than one. The rules in Grammar name
-- these conditions where they apply.
--  - Operators nest by level, and those of one level to the left.
--  - In the header of an `if`, `for` or `switch` a composite literal of a bare type name stands in brackets.
--  - A result that begins with a bracket is a list of parameters.
--  - In a list of parameters with an item that has both name and type, an item of one name alone takes the type
--    of the next item, so it is not the last one; in other lists each item is a type.
--  - A type, a signature and a literal take each token that can continue them (OperatorTokens says which can).
--  - What stands in the brackets of an instance, where a type stands, is written as types.
-- Which of a type's length and its type parameters is meant, TypeParameters says.
-- (The Go specification, "Operator precedence", "Composite literals", "Function types", "Channel types",
-- "Instantiations", "General interfaces".)
use Rattle.std.specs.Prelude.{◌≡◌, ℕ, ◌≤◌, ◌<◌, Bool, true, false, ◌||◌, ◌&&◌}
use Rattle.tree.specs.declared.operator.BinaryOperator.{BinaryOperator}
use Rattle.tree.specs.declared.operator.BinaryOperator.TheVariants.{LogicalOr, LogicalAnd, Equal, NotEqual, Less, LessOrEqual, Greater, GreaterOrEqual, Add, Subtract, Or, Xor}
use Rattle.tree.specs.declared.operator.ChanDirection.TheVariants.{Both, Send, Receive}
use Rattle.tree.specs.declared.operator.UnaryOperator.TheVariants.{Receive as receive_operator, Tilde}
use Rattle.tree.specs.Syntax.{Expression, expression_node, ExpressionForm, name_expression, composite_literal, parenthesized, selector_expression, index_expression, instance_expression, slice_expression, type_assertion, call_expression, star_expression, unary_expression, binary_expression, array_type, ellipsis_array_type, slice_type, map_type, channel_type, function_type, struct_type, interface_type, Expressions, no_expression, expression_and, Parameters, no_parameter, named_and, unnamed_and, name_alone_and, statement_node, StatementForm, empty_statement, expression_statement, send_statement, increment_statement, decrement_statement, assignment, operator_assignment, define_statement, block_statement, if_statement, OptionalStatement, missing_statement, present_statement, OptionalExpression, missing_expression, present_expression}

-- how tight an operator binds
abbrev pub operator_level : BinaryOperator → ℕ
operator_level LogicalOr = 1
operator_level LogicalAnd = 2
operator_level Equal = 3
operator_level NotEqual = 3
operator_level Less = 3
operator_level LessOrEqual = 3
operator_level Greater = 3
operator_level GreaterOrEqual = 3
operator_level Add = 4
operator_level Subtract = 4
operator_level Or = 4
operator_level Xor = 4
operator_level _ = 5

-- How tight an expression holds together: an operator before its operand binds tighter than those between two
-- operands, and a primary expression tighter than all. Types, names and literals are primary expressions.
abbrev pub unary_level : ℕ
unary_level = 6

abbrev pub primary_level : ℕ
primary_level = 7

abbrev pub form_level : ExpressionForm → ℕ
form_level (binary_expression op l r) = operator_level op
form_level (unary_expression op e) = unary_level
form_level (star_expression e) = unary_level
form_level form = primary_level

abbrev pub level : Expression → ℕ
level (expression_node form span) = form_level form

abbrev pub IsPrimary : Expression → Type 0
IsPrimary e = level e ≡ primary_level

abbrev pub IsUnaryOperand : Expression → Type 0
IsUnaryOperand e = unary_level ≤ level e

-- operators of one level nest to the left
abbrev pub NestByLevel : BinaryOperator → Expression → Expression → Type 0
NestByLevel op l r = (operator_level op ≤ level l) × (operator_level op < level r)

abbrev pub is_name_form : ExpressionForm → Bool
is_name_form (name_expression text) = true
is_name_form form = false

abbrev pub is_name : Expression → Bool
is_name (expression_node form span) = is_name_form form

-- `name` or `package.name`, or an instance of it, as the type of a composite literal
abbrev pub is_type_name_form : ExpressionForm → Bool
is_type_name_form (name_expression text) = true
is_type_name_form (selector_expression e n) = true
is_type_name_form (index_expression e i) = true
is_type_name_form (instance_expression e es) = true
is_type_name_form form = false

abbrev pub is_type_name : Expression → Bool
is_type_name (expression_node form span) = is_type_name_form form

-- the types that a composite literal can have
abbrev pub takes_elements_form : ExpressionForm → Bool
takes_elements_form (name_expression text) = true
takes_elements_form (selector_expression e n) = true
takes_elements_form (index_expression e i) = true
takes_elements_form (instance_expression e es) = true
takes_elements_form (array_type n t) = true
takes_elements_form (ellipsis_array_type t) = true
takes_elements_form (slice_type t) = true
takes_elements_form (map_type k t) = true
takes_elements_form (channel_type Receive t) = false
takes_elements_form (channel_type direction t) = true
takes_elements_form (struct_type fs) = true
takes_elements_form (interface_type fs) = true
takes_elements_form form = false

abbrev pub takes_elements : Expression → Bool
takes_elements (expression_node form span) = takes_elements_form form

abbrev pub is_parenthesized_form : ExpressionForm → Bool
is_parenthesized_form (parenthesized e) = true
is_parenthesized_form form = false

abbrev pub is_parenthesized : Expression → Bool
is_parenthesized (expression_node form span) = is_parenthesized_form form

abbrev pub is_call_form : ExpressionForm → Bool
is_call_form (call_expression e es ellipsis) = true
is_call_form form = false

abbrev pub is_call : Expression → Bool
is_call (expression_node form span) = is_call_form form

-- `name` or `package.name`
abbrev pub names_type_form : ExpressionForm → Bool
names_type_form (name_expression text) = true
names_type_form (selector_expression e n) = is_name e
names_type_form form = false

abbrev pub names_type : Expression → Bool
names_type (expression_node form span) = names_type_form form

abbrev pub is_instance_form : ExpressionForm → Bool
is_instance_form (index_expression e i) = true
is_instance_form (instance_expression e es) = true
is_instance_form form = false

abbrev pub is_instance : Expression → Bool
is_instance (expression_node form span) = is_instance_form form

-- After `<-` this makes a type of channels from which values can be received: in `<-chan <-chan T` each `<-` but the
-- first follows a `chan`.
unfoldable mutual
  pub is_received : Expression → Bool
  is_received (expression_node form span) = is_received_form form

  pub is_received_form : ExpressionForm → Bool
  is_received_form (channel_type Both t) = true
  is_received_form (channel_type Send t) = is_received t
  is_received_form form = false

-- The expression is written as a type.
unfoldable mutual
  pub is_type : Expression → Bool
  is_type (expression_node form span) = is_type_form form

  pub is_type_form : ExpressionForm → Bool
  is_type_form (name_expression text) = true
  is_type_form (selector_expression e n) = is_name e
  is_type_form (index_expression e i) = names_type e && is_type i
  is_type_form (instance_expression e es) = names_type e && are_types es
  is_type_form (parenthesized e) = is_type e
  is_type_form (star_expression e) = is_type e
  is_type_form (unary_expression receive_operator e) = is_received e
  is_type_form (array_type n t) = true
  is_type_form (ellipsis_array_type t) = true
  is_type_form (slice_type t) = true
  is_type_form (map_type k t) = true
  is_type_form (channel_type direction t) = true
  is_type_form (function_type signature) = true
  is_type_form (struct_type fs) = true
  is_type_form (interface_type fs) = true
  is_type_form form = false

  pub are_types : Expressions → Bool
  are_types no_expression = true
  are_types (expression_and e es) = is_type e && are_types es

-- a term of a constraint: a type, perhaps with `~` before it
abbrev pub is_term_form : ExpressionForm → Bool
is_term_form (unary_expression Tilde e) = is_type e
is_term_form form = is_type_form form

abbrev pub is_term : Expression → Bool
is_term (expression_node form span) = is_term_form form

-- terms with `|` between them
unfoldable mutual
  pub is_constraint : Expression → Bool
  is_constraint (expression_node form span) = is_constraint_form form

  pub is_constraint_form : ExpressionForm → Bool
  is_constraint_form (binary_expression Or l r) = is_constraint l && is_term r
  is_constraint_form form = is_term_form form

-- Outside all brackets and braces of the expression stands a composite literal of a bare type name.
unfoldable mutual
  pub has_bare_literal : Expression → Bool
  has_bare_literal (expression_node form span) = has_bare_literal_form form

  pub has_bare_literal_form : ExpressionForm → Bool
  has_bare_literal_form (composite_literal t es) = is_type_name t
  has_bare_literal_form (selector_expression e n) = has_bare_literal e
  has_bare_literal_form (index_expression e i) = has_bare_literal e
  has_bare_literal_form (instance_expression e es) = has_bare_literal e
  has_bare_literal_form (slice_expression e low high most) = has_bare_literal e
  has_bare_literal_form (type_assertion e t) = has_bare_literal e
  has_bare_literal_form (call_expression e es ellipsis) = has_bare_literal e
  has_bare_literal_form (star_expression e) = has_bare_literal e
  has_bare_literal_form (unary_expression op e) = has_bare_literal e
  has_bare_literal_form (binary_expression op l r) = has_bare_literal l || has_bare_literal r
  has_bare_literal_form form = false

-- the expression can stand in a header
abbrev pub FitsHeader : Expression → Type 0
FitsHeader e = has_bare_literal e ≡ false

abbrev pub FitHeader : Expressions → Type 0
FitHeader no_expression = Unit {0}
FitHeader (expression_and e es) = FitsHeader e × FitHeader es

abbrev pub OptionalFitsHeader : OptionalExpression → Type 0
OptionalFitsHeader missing_expression = Unit {0}
OptionalFitsHeader (present_expression e) = FitsHeader e

-- a simple statement, which can stand in a header
abbrev pub StatementFitsHeader : StatementForm → Type 0
StatementFitsHeader (expression_statement e) = FitsHeader e
StatementFitsHeader (send_statement c v) = FitsHeader c × FitsHeader v
StatementFitsHeader (increment_statement e) = FitsHeader e
StatementFitsHeader (decrement_statement e) = FitsHeader e
StatementFitsHeader (assignment ls rs) = FitHeader ls × FitHeader rs
StatementFitsHeader (operator_assignment op l r) = FitsHeader l × FitsHeader r
StatementFitsHeader (define_statement ns rs) = FitHeader rs
StatementFitsHeader form = ⊥

abbrev pub InitFitsHeader : OptionalStatement → Type 0
InitFitsHeader missing_statement = Unit {0}
InitFitsHeader (present_statement (statement_node form span)) = StatementFitsHeader form

abbrev pub IsOne : Expressions → Type 0
IsOne (expression_and e no_expression) = Unit {0}
IsOne es = ⊥

-- what a clause of a `select` can wait for
abbrev pub IsCommunication : StatementForm → Type 0
IsCommunication (send_statement c v) = Unit {0}
IsCommunication (expression_statement e) = Unit {0}
IsCommunication (assignment ls rs) = IsOne rs
IsCommunication (define_statement ns rs) = IsOne rs
IsCommunication form = ⊥

-- what can stand after `else`
abbrev pub IsElse : StatementForm → Type 0
IsElse (if_statement init semicolon c ss braces otherwise) = Unit {0}
IsElse (block_statement ss braces) = Unit {0}
IsElse form = ⊥

-- empty statements of a list leave nothing in the tree
abbrev pub IsKept : StatementForm → Type 0
IsKept empty_statement = ⊥
IsKept form = Unit {0}

-- some item has both name and type
abbrev pub has_named_item : Parameters → Bool
has_named_item no_parameter = false
has_named_item (named_and n ellipsis t ps) = true
has_named_item (unnamed_and ellipsis t ps) = has_named_item ps
has_named_item (name_alone_and n ps) = has_named_item ps

abbrev pub IsItem : Parameters → Type 0
IsItem no_parameter = ⊥
IsItem ps = Unit {0}

-- each item is what it is to be in a list with such an item, or in one without
abbrev pub AreItems : Bool → Parameters → Type 0
AreItems named no_parameter = Unit {0}
AreItems named (named_and n ellipsis t ps) = AreItems named ps
AreItems named (unnamed_and true t ps) = AreItems named ps
AreItems named (unnamed_and false t ps) = (named && is_name t ≡ false) × AreItems named ps
AreItems named (name_alone_and n ps) = (named ≡ true) × IsItem ps × AreItems named ps

abbrev pub FitTogether : Parameters → Type 0
FitTogether ps = AreItems (has_named_item ps) ps

-- Type parameters: the last one has a constraint, and so each has one, its own or that of the next.
abbrev pub end_constrained : Parameters → Bool
end_constrained no_parameter = false
end_constrained (named_and n ellipsis t no_parameter) = true
end_constrained (named_and n ellipsis t ps) = end_constrained ps
end_constrained (unnamed_and ellipsis t ps) = false
end_constrained (name_alone_and n ps) = end_constrained ps
