-- With which tokens an expression, a type and a statement begin.
use Rattle.std.proofs.Common.{◌≡◌, ℕ, ◌≤◌, Bool, true, false, true≢false, List, [], ◌∷◌, refl, sym, ◌∙◌, arith}
use Rattle.std.specs.Prelude.{not, ◌||◌}
use Rattle.lexer.specs.declared.token.TokenKind.{TokenKind}
use Rattle.lexer.specs.declared.token.TokenKind.TheVariants.{Identifier as identifier_kind, Number as number_token, Rune as rune_token, InterpretedString as interpreted_string_token, RawString as raw_string_token, BreakKeyword, ChanKeyword, ConstKeyword, ContinueKeyword, DeferKeyword, FallthroughKeyword, ForKeyword, FuncKeyword, GoKeyword, GotoKeyword, IfKeyword, InterfaceKeyword, MapKeyword, ReturnKeyword, SelectKeyword, StructKeyword, SwitchKeyword, TypeKeyword, VarKeyword, Plus as plus_token, Minus, Star, Ampersand, Caret, Arrow, Bang, LeftParenthesis, LeftBracket, LeftBrace}
use Rattle.tree.specs.declared.operator.BasicLitKind.{BasicLitKind}
use Rattle.tree.specs.declared.operator.BasicLitKind.TheVariants.{Number, Rune, InterpretedString, RawString}
use Rattle.tree.specs.declared.operator.BinaryOperator.{BinaryOperator}
use Rattle.tree.specs.declared.operator.BinaryOperator.TheVariants.{LogicalOr}
use Rattle.tree.specs.declared.operator.UnaryOperator.{UnaryOperator}
use Rattle.tree.specs.declared.operator.UnaryOperator.TheVariants.{Plus, Negate, Not, Complement, Address, Receive, Tilde}
use Rattle.tree.specs.declared.operator.ChanDirection.TheVariants.{Both, Send, Receive as receive_only}
use Rattle.tree.specs.declared.operator.DeclKeyword.{DeclKeyword}
use Rattle.tree.specs.declared.operator.DeclKeyword.TheVariants.{Const, Var, «Type» as type_keyword}
use Rattle.tree.specs.Syntax.{Identifier, Expression, expression_node, name_expression, basic_literal, function_literal, composite_literal, literal_value, key_value, parenthesized, selector_expression, index_expression, slice_expression, type_assertion, call_expression, star_expression, unary_expression, binary_expression, array_type, ellipsis_array_type, slice_type, map_type, channel_type, function_type, struct_type, interface_type, Expressions, no_expression, expression_and, Statement, statement_node, StatementForm, empty_statement, declaration_statement, labeled_statement, expression_statement, send_statement, increment_statement, decrement_statement, assignment, operator_assignment, define_statement, go_statement, defer_statement, return_statement, break_statement, continue_statement, block_statement, if_statement, for_statement, range_assignment, range_definition, switch_statement, type_switch_statement, select_statement, Declaration, declaration_of, instance_expression, goto_statement, fallthrough_statement}
use Rattle.meaning.specs.Cursor.{GoText, Cursor, TakesToken, is_next, identifiers}
use Rattle.meaning.specs.OperatorTokens.{can_begin_type, unary_token, literal_token, keyword_token}
use Rattle.meaning.specs.WellFormed.{operator_level, level, primary_level, IsPrimary, is_name, takes_elements, IsKept, names_type}
use Rattle.meaning.specs.Grammar.{as_type, as_expression, as_value, as_element, form_of, SpellsExpression, SpellsForm, SpellsExpressions, SpellsStatement, SpellsStatementForm, SpellsDeclaration, as_constraint, CanOperate}
use Rattle.tree_reader.proofs.Taken.{next_gives, next_implied}

-- the tokens with which a primary expression can begin
abbrev pub begins_primary : TokenKind → Bool
begins_primary identifier_kind = true
begins_primary number_token = true
begins_primary rune_token = true
begins_primary interpreted_string_token = true
begins_primary raw_string_token = true
begins_primary LeftParenthesis = true
begins_primary LeftBracket = true
begins_primary MapKeyword = true
begins_primary ChanKeyword = true
begins_primary FuncKeyword = true
begins_primary StructKeyword = true
begins_primary InterfaceKeyword = true
begins_primary _ = false

abbrev pub is_unary_token : TokenKind → Bool
is_unary_token plus_token = true
is_unary_token Minus = true
is_unary_token Bang = true
is_unary_token Caret = true
is_unary_token Ampersand = true
is_unary_token Arrow = true
is_unary_token Star = true
is_unary_token _ = false

abbrev pub begins_expression : TokenKind → Bool
begins_expression kind = begins_primary kind || is_unary_token kind

abbrev pub begins_other_statement : TokenKind → Bool
begins_other_statement LeftBrace = true
begins_other_statement ConstKeyword = true
begins_other_statement VarKeyword = true
begins_other_statement TypeKeyword = true
begins_other_statement IfKeyword = true
begins_other_statement ForKeyword = true
begins_other_statement SwitchKeyword = true
begins_other_statement SelectKeyword = true
begins_other_statement ReturnKeyword = true
begins_other_statement GoKeyword = true
begins_other_statement DeferKeyword = true
begins_other_statement BreakKeyword = true
begins_other_statement ContinueKeyword = true
begins_other_statement GotoKeyword = true
begins_other_statement FallthroughKeyword = true
begins_other_statement _ = false

-- the tokens with which a statement that is not empty can begin
abbrev pub begins_statement : TokenKind → Bool
begins_statement kind = begins_expression kind || begins_other_statement kind

-- the tokens with which an element in braces can begin
abbrev pub begins_element : TokenKind → Bool
begins_element LeftBrace = true
begins_element kind = begins_expression kind

expression_is_element : (k : TokenKind) → (not (begins_expression k) || begins_element k) ≡ true
expression_is_element identifier_kind = refl
expression_is_element _ = refl

primary_is_expression : (k : TokenKind) → (not (begins_primary k) || begins_expression k) ≡ true
primary_is_expression identifier_kind = refl
primary_is_expression _ = refl

expression_is_statement : (k : TokenKind) → (not (begins_expression k) || begins_statement k) ≡ true
expression_is_statement identifier_kind = refl
expression_is_statement _ = refl

pub literal_begins : (kind : BasicLitKind) → begins_primary (literal_token kind) ≡ true
literal_begins Number = refl
literal_begins Rune = refl
literal_begins InterpretedString = refl
literal_begins RawString = refl

unary_begins : (op : UnaryOperator) → CanOperate as_expression op → begins_expression (unary_token op) ≡ true
unary_begins Plus h = refl
unary_begins Negate h = refl
unary_begins Not h = refl
unary_begins Complement h = refl
unary_begins Address h = refl
unary_begins Receive h = refl
unary_begins Tilde h = let p : as_expression ≡ as_constraint = h in cc

keyword_begins : (keyword : DeclKeyword) → begins_statement (keyword_token keyword) ≡ true
keyword_begins Const = refl
keyword_begins Var = refl
keyword_begins type_keyword = refl

-- the levels
pub operator_low : (op : BinaryOperator) → operator_level op ≤ 5
operator_low LogicalOr = omega arith
operator_low _ = omega arith

pub operator_high : (op : BinaryOperator) → 1 ≤ operator_level op
operator_high LogicalOr = omega arith
operator_high _ = omega arith

pub level_high : (e : Expression) → 1 ≤ level e
level_high (expression_node (binary_expression op l r) span) = operator_high op
level_high (expression_node (name_expression text) span) = omega arith
level_high (expression_node _ span) = omega arith

pub level_low : (e : Expression) → level e ≤ primary_level
level_low (expression_node (binary_expression op l r) span) = omega (arith, operator_low op)
level_low (expression_node (name_expression text) span) = omega arith
level_low (expression_node _ span) = omega arith

-- the only forms of an element that are no expressions
abbrev pub is_key_value : Expression → Bool
is_key_value (expression_node (key_value k v) span) = true
is_key_value (expression_node form span) = false

abbrev pub is_literal_value : Expression → Bool
is_literal_value (expression_node (literal_value es) span) = true
is_literal_value (expression_node form span) = false

module _ (text : GoText) where
  pub element_as_value : (e : Expression) (from to : Cursor)
      → is_key_value e ≡ false
      → SpellsExpression text as_element e from to
      → SpellsExpression text as_value e from to
  unfolding SpellsExpression SpellsForm
  element_as_value (expression_node (key_value k v) span) from to h s = absurd (true≢false h)
  element_as_value (expression_node (unary_expression Tilde e) span) from to h s =
      let p : as_element ≡ as_constraint = s.0.0 in cc
  element_as_value (expression_node (name_expression name) span) from to h s = s
  element_as_value (expression_node _ span) from to h s = s

  pub value_as_expression : (e : Expression) (from to : Cursor)
      → is_literal_value e ≡ false
      → SpellsExpression text as_value e from to
      → SpellsExpression text as_expression e from to
  unfolding SpellsExpression SpellsForm
  value_as_expression (expression_node (literal_value es) span) from to h s = absurd (true≢false h)
  value_as_expression (expression_node (key_value k v) span) from to h s =
      let p : as_value ≡ as_element = s.0.0 in cc
  value_as_expression (expression_node (unary_expression Tilde e) span) from to h s =
      let p : as_value ≡ as_constraint = s.0.0 in cc
  value_as_expression (expression_node (name_expression name) span) from to h s = s
  value_as_expression (expression_node _ span) from to h s = s

  -- a name is one token
  pub name_token : (e : Expression) (from to : Cursor)
      → is_name e ≡ true
      → SpellsExpression text as_expression e from to
      → (middle : Cursor) × TakesToken identifier_kind from middle
  unfolding SpellsExpression SpellsForm
  name_token (expression_node (name_expression name) span) from to h s = (s.0.0, s.0.1.0)
  name_token (expression_node _ span) from to h s = absurd (true≢false (sym h))

  -- the name of a type begins with a name
  pub first_name : (e : Expression) (from to : Cursor)
      → names_type e ≡ true
      → SpellsExpression text as_expression e from to
      → (middle : Cursor) × TakesToken identifier_kind from middle
  unfolding SpellsExpression SpellsForm
  first_name (expression_node (name_expression name) span) from to h s = (s.0.0, s.0.1.0)
  first_name (expression_node (selector_expression e n) span) from to h s = name_token e from s.0.1.0 h s.0.1.1
  first_name (expression_node _ span) from to h s = absurd (true≢false (sym h))

  pub type_begins : (t : Expression) (from to : Cursor)
      → SpellsExpression text as_type t from to
      → is_next can_begin_type from ≡ true
  unfolding SpellsExpression SpellsForm
  type_begins (expression_node (name_expression name) span) from to s = next_gives s.0.1.0 can_begin_type
  type_begins (expression_node (parenthesized e) span) from to s = next_gives s.0.1 can_begin_type
  type_begins (expression_node (selector_expression e n) span) from to s =
      let name = name_token e from s.0.1.0 s.0.0 s.0.1.1 in next_gives name.1 can_begin_type
  type_begins (expression_node (index_expression e i) span) from to s =
      next_gives (first_name e from s.0.1.1.0 s.0.0.1 s.0.1.1.1).1 can_begin_type
  type_begins (expression_node (instance_expression e es) span) from to s =
      next_gives (first_name e from s.0.1.1.1.0 s.0.1.0.1 s.0.1.1.1.1).1 can_begin_type
  type_begins (expression_node (unary_expression Tilde e) span) from to s =
      let p : as_type ≡ as_constraint = s.0.0 in cc
  type_begins (expression_node (star_expression e) span) from to s = next_gives s.0.1.1 can_begin_type
  type_begins (expression_node (array_type n t) span) from to s = next_gives s.0.1.1 can_begin_type
  type_begins (expression_node (ellipsis_array_type t) span) from to s = next_gives s.0.1.1 can_begin_type
  type_begins (expression_node (slice_type t) span) from to s = next_gives s.0.1.1 can_begin_type
  type_begins (expression_node (map_type k t) span) from to s = next_gives s.0.1 can_begin_type
  type_begins (expression_node (channel_type Both t) span) from to s = next_gives s.0.1.1 can_begin_type
  type_begins (expression_node (channel_type Send t) span) from to s = next_gives s.0.1.1 can_begin_type
  type_begins (expression_node (channel_type receive_only t) span) from to s = next_gives s.0.1.1 can_begin_type
  type_begins (expression_node (function_type signature) span) from to s = next_gives s.0.1 can_begin_type
  type_begins (expression_node (struct_type fs) span) from to s = next_gives s.0.1 can_begin_type
  type_begins (expression_node (interface_type fs) span) from to s = next_gives s.0.1 can_begin_type
  type_begins (expression_node (key_value k v) span) from to s = let p : as_type ≡ as_element = s.0.0 in cc
  type_begins (expression_node _ span) from to s = absurd s.0.0

  -- the type of a composite literal
  literal_type_begins : (t : Expression) (from to : Cursor)
      → takes_elements t ≡ true
      → SpellsExpression text as_type t from to
      → is_next begins_primary from ≡ true
  unfolding SpellsExpression SpellsForm
  literal_type_begins (expression_node (name_expression name) span) from to h s = next_gives s.0.1.0 begins_primary
  literal_type_begins (expression_node (selector_expression e n) span) from to h s =
      let name = name_token e from s.0.1.0 s.0.0 s.0.1.1 in next_gives name.1 begins_primary
  literal_type_begins (expression_node (index_expression e i) span) from to h s =
      next_gives (first_name e from s.0.1.1.0 s.0.0.1 s.0.1.1.1).1 begins_primary
  literal_type_begins (expression_node (instance_expression e es) span) from to h s =
      next_gives (first_name e from s.0.1.1.1.0 s.0.1.0.1 s.0.1.1.1.1).1 begins_primary
  literal_type_begins (expression_node (array_type n t) span) from to h s = next_gives s.0.1.1 begins_primary
  literal_type_begins (expression_node (ellipsis_array_type t) span) from to h s = next_gives s.0.1.1 begins_primary
  literal_type_begins (expression_node (slice_type t) span) from to h s = next_gives s.0.1.1 begins_primary
  literal_type_begins (expression_node (map_type k t) span) from to h s = next_gives s.0.1 begins_primary
  literal_type_begins (expression_node (channel_type Both t) span) from to h s = next_gives s.0.1.1 begins_primary
  literal_type_begins (expression_node (channel_type Send t) span) from to h s = next_gives s.0.1.1 begins_primary
  literal_type_begins (expression_node (channel_type receive_only t) span) from to h s = absurd (true≢false (sym h))
  literal_type_begins (expression_node (struct_type fs) span) from to h s = next_gives s.0.1 begins_primary
  literal_type_begins (expression_node (interface_type fs) span) from to h s = next_gives s.0.1 begins_primary
  literal_type_begins (expression_node _ span) from to h s = absurd (true≢false (sym h))

  pub primary_begins : (e : Expression) (from to : Cursor)
      → IsPrimary e
      → SpellsExpression text as_expression e from to
      → is_next begins_primary from ≡ true
  unfolding SpellsExpression SpellsForm
  primary_begins (expression_node (name_expression name) span) from to h s = next_gives s.0.1.0 begins_primary
  primary_begins (expression_node (basic_literal kind) span) from to h s =
      next_gives s.0.1 begins_primary ∙ literal_begins kind
  primary_begins (expression_node (function_literal signature ss braces) span) from to h s =
      next_gives s.0.1.1 begins_primary
  primary_begins (expression_node (composite_literal t es) span) from to h s =
      literal_type_begins t from s.0.1.1.0 s.0.1.0 s.0.1.1.1
  primary_begins (expression_node (literal_value es) span) from to h s = absurd s.0.0
  primary_begins (expression_node (key_value k v) span) from to h s = let p : as_expression ≡ as_element = s.0.0 in cc
  primary_begins (expression_node (parenthesized e) span) from to h s = next_gives s.0.1 begins_primary
  primary_begins (expression_node (selector_expression e n) span) from to h s =
      primary_begins e from s.0.1.0 s.0.0 s.0.1.1
  primary_begins (expression_node (index_expression e i) span) from to h s =
      primary_begins e from s.0.1.1.0 s.0.1.0 s.0.1.1.1
  primary_begins (expression_node (instance_expression e es) span) from to h s =
      primary_begins e from s.0.1.1.1.0 s.0.1.1.0 s.0.1.1.1.1
  primary_begins (expression_node (slice_expression e low high most) span) from to h s =
      primary_begins e from s.0.1.1.0 s.0.1.0 s.0.1.1.1
  primary_begins (expression_node (type_assertion e t) span) from to h s =
      primary_begins e from s.0.1.1.0 s.0.1.0 s.0.1.1.1
  primary_begins (expression_node (call_expression e es ellipsis) span) from to h s =
      primary_begins e from s.0.1.1.0 s.0.1.0 s.0.1.1.1
  primary_begins (expression_node (array_type n t) span) from to h s = next_gives s.0.1.1 begins_primary
  primary_begins (expression_node (ellipsis_array_type t) span) from to h s = next_gives s.0.1.1 begins_primary
  primary_begins (expression_node (slice_type t) span) from to h s = next_gives s.0.1.1 begins_primary
  primary_begins (expression_node (map_type k t) span) from to h s = next_gives s.0.1 begins_primary
  primary_begins (expression_node (channel_type Both t) span) from to h s = next_gives s.0.1.1 begins_primary
  primary_begins (expression_node (channel_type Send t) span) from to h s = next_gives s.0.1.1 begins_primary
  primary_begins (expression_node (channel_type receive_only t) span) from to h s = absurd s.0.1
  primary_begins (expression_node (function_type signature) span) from to h s = next_gives s.0.1 begins_primary
  primary_begins (expression_node (struct_type fs) span) from to h s = next_gives s.0.1 begins_primary
  primary_begins (expression_node (interface_type fs) span) from to h s = next_gives s.0.1 begins_primary
  primary_begins (expression_node (star_expression e) span) from to h s = absurd (omega arith)
  primary_begins (expression_node (unary_expression op e) span) from to h s = absurd (omega arith)
  primary_begins (expression_node (binary_expression op l r) span) from to h s = absurd (omega (arith, operator_low op))

  pub expression_begins : (e : Expression) (from to : Cursor)
      → SpellsExpression text as_expression e from to
      → is_next begins_expression from ≡ true
  unfolding SpellsExpression SpellsForm
  expression_begins (expression_node (star_expression e) span) from to s = next_gives s.0.1.1 begins_expression
  expression_begins (expression_node (unary_expression op e) span) from to s =
      next_gives s.0.1.1.1 begins_expression ∙ unary_begins op s.0.0
  expression_begins (expression_node (binary_expression op l r) span) from to s =
      expression_begins l from s.0.1.1.0 s.0.1.1.1
  expression_begins (expression_node (name_expression name) span) from to s =
      next_implied begins_primary begins_expression from primary_is_expression
      (primary_begins (expression_node (name_expression name) span) from to refl s)
  expression_begins (expression_node form span) from to s =
      next_implied begins_primary begins_expression from primary_is_expression
      (primary_begins (expression_node form span) from to refl s)

  value_begins_by : (e : Expression) (b : Bool)
      → is_literal_value e ≡ b
      → (from to : Cursor)
      → SpellsExpression text as_value e from to
      → is_next begins_element from ≡ true
  unfolding SpellsExpression SpellsForm
  value_begins_by e false h from to s =
      next_implied begins_expression begins_element from expression_is_element
      (expression_begins e from to (value_as_expression e from to h s))
  value_begins_by (expression_node (literal_value es) span) true h from to s = next_gives s.0.1.1 begins_element
  value_begins_by (expression_node _ span) true h from to s = absurd (true≢false (sym h))

  pub value_begins : (e : Expression) (from to : Cursor)
      → SpellsExpression text as_value e from to
      → is_next begins_element from ≡ true
  value_begins e from to s = value_begins_by e (is_literal_value e) refl from to s

  pub element_begins : (e : Expression) (from to : Cursor)
      → SpellsExpression text as_element e from to
      → is_next begins_element from ≡ true
  unfolding SpellsExpression SpellsForm
  element_begins (expression_node (key_value k v) span) from to s = value_begins k from s.0.1.0 s.0.1.1
  element_begins (expression_node (name_expression name) span) from to s =
      value_begins (expression_node (name_expression name) span) from to
      (element_as_value (expression_node (name_expression name) span) from to refl s)
  element_begins (expression_node form span) from to s =
      value_begins (expression_node form span) from to (element_as_value (expression_node form span) from to refl s)

  expressions_begin : (es : Expressions) (from to : Cursor)
      → SpellsExpressions text as_expression es from to
      → is_next begins_expression from ≡ true
  unfolding SpellsExpressions
  expressions_begin no_expression from to s = absurd s
  expressions_begin (expression_and e es) from to s = expression_begins e from s.0 s.1

  identifiers_begin : (ns : List Identifier) (from to : Cursor)
      → identifiers text ns from to
      → is_next begins_statement from ≡ true
  identifiers_begin [] from to s = absurd s
  identifiers_begin (n ∷ ns) from to s = next_gives s.1.0.0 begins_statement

  declaration_begins : (d : Declaration) (from to : Cursor)
      → SpellsDeclaration text d from to
      → is_next begins_statement from ≡ true
  unfolding SpellsDeclaration
  declaration_begins (declaration_of keyword specs is_grouped span) from to s =
      next_gives s.0.1 begins_statement ∙ keyword_begins keyword

  as_statement : (from : Cursor) → is_next begins_expression from ≡ true → is_next begins_statement from ≡ true
  as_statement from h = next_implied begins_expression begins_statement from expression_is_statement h

  statement_form_begins : (form : StatementForm) (from to : Cursor)
      → IsKept form
      → SpellsStatementForm text form from to
      → is_next begins_statement from ≡ true
  unfolding SpellsStatementForm
  statement_form_begins empty_statement from to h s = absurd h
  statement_form_begins (declaration_statement d) from to h s = declaration_begins d from to s
  statement_form_begins (labeled_statement n inner) from to h s = next_gives s.1.0.0 begins_statement
  statement_form_begins (expression_statement e) from to h s = as_statement from (expression_begins e from to s)
  statement_form_begins (send_statement c v) from to h s = as_statement from (expression_begins c from s.0 s.1)
  statement_form_begins (increment_statement e) from to h s = as_statement from (expression_begins e from s.0 s.1)
  statement_form_begins (decrement_statement e) from to h s = as_statement from (expression_begins e from s.0 s.1)
  statement_form_begins (assignment ls rs) from to h s = as_statement from (expressions_begin ls from s.0 s.1)
  statement_form_begins (operator_assignment op l r) from to h s = as_statement from (expression_begins l from s.0 s.1)
  statement_form_begins (define_statement ns rs) from to h s = identifiers_begin ns from s.0 s.1
  statement_form_begins (go_statement e) from to h s = next_gives s.1.1 begins_statement
  statement_form_begins (defer_statement e) from to h s = next_gives s.1.1 begins_statement
  statement_form_begins (return_statement es) from to h s = next_gives s.1 begins_statement
  statement_form_begins (break_statement n) from to h s = next_gives s.1 begins_statement
  statement_form_begins (continue_statement n) from to h s = next_gives s.1 begins_statement
  statement_form_begins (goto_statement n) from to h s = next_gives s.1.1 begins_statement
  statement_form_begins fallthrough_statement from to h s = next_gives s.1 begins_statement
  statement_form_begins (block_statement ss braces) from to h s = next_gives s.0.1 begins_statement
  statement_form_begins (if_statement init has_semicolon c ss braces otherwise) from to h s =
      next_gives s.1.1.1 begins_statement
  statement_form_begins (for_statement init c post has_semicolons ss braces) from to h s =
      next_gives s.1.1.1.1 begins_statement
  statement_form_begins (range_assignment ls e ss braces) from to h s = next_gives s.1.1.1 begins_statement
  statement_form_begins (range_definition ns e ss braces) from to h s = next_gives s.1.1 begins_statement
  statement_form_begins (switch_statement init has_semicolon tag cs) from to h s = next_gives s.1.1.1 begins_statement
  statement_form_begins (type_switch_statement init has_semicolon n e cs) from to h s =
      next_gives s.1.1.1.1 begins_statement
  statement_form_begins (select_statement cs) from to h s = next_gives s.1 begins_statement

  pub statement_begins : (s : Statement) (from to : Cursor)
      → IsKept (form_of s)
      → SpellsStatement text s from to
      → is_next begins_statement from ≡ true
  unfolding SpellsStatement
  statement_begins (statement_node form span) from to h s = statement_form_begins form from to h s.0
