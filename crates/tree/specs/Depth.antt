-- The depth of a tree: the number of statements and expressions on its longest path down, counting both ends.
-- A declaration outside all functions, signatures, fields, specs, clauses and key-value pairs count nothing, and
-- neither does a block that is the body of a function, a literal, an `if`, an `else` or a `for`. A block that is a
-- statement, an `if` after `else`, a header's statement, and a select's communication count one each, and so does an
-- element in braces of a composite literal. A type is an expression, and so is a constraint; type parameters count
-- nothing.
use Rattle.std.specs.Prelude.{ℕ, suc, max, List, [], ◌∷◌, Option, Some, None}
use Rattle.tree.specs.Syntax.{Expression, expression_node, ExpressionForm, name_expression, basic_literal, function_literal, composite_literal, literal_value, key_value, parenthesized, selector_expression, index_expression, instance_expression, slice_expression, type_assertion, call_expression, star_expression, unary_expression, binary_expression, array_type, ellipsis_array_type, slice_type, map_type, channel_type, function_type, struct_type, interface_type, Expressions, no_expression, expression_and, OptionalExpression, missing_expression, present_expression, Signature, signature_of, Parameters, no_parameter, named_and, unnamed_and, name_alone_and, Fields, no_field, fields_and, embedded_and, element_and, method_and, Statement, statement_node, StatementForm, empty_statement, declaration_statement, labeled_statement, expression_statement, send_statement, increment_statement, decrement_statement, assignment, operator_assignment, define_statement, go_statement, defer_statement, return_statement, break_statement, continue_statement, goto_statement, fallthrough_statement, block_statement, if_statement, for_statement, range_assignment, range_definition, switch_statement, type_switch_statement, select_statement, Statements, no_statement, statement_and, OptionalStatement, missing_statement, present_statement, CaseClauses, no_case, case_and, CommunicationClauses, no_communication, communication_and, Declaration, declaration_of, Specs, no_spec, value_and, type_and, Block, Function, TopLevelDeclaration, function_declaration, general_declaration, SourceFile}

-- an expression counts one more than what is below it, and a key-value pair nothing
abbrev pub count_expression : ExpressionForm → ℕ → ℕ
count_expression (key_value k v) below = below
count_expression form below = suc below

-- of what stands after `else`, an `if` counts one more than what is below it, and a block nothing
abbrev pub count_else : StatementForm → ℕ → ℕ
count_else (block_statement ss braces) below = below
count_else form below = suc below

unfoldable mutual
  pub expression_depth : Expression → ℕ
  expression_depth (expression_node form span) = count_expression form (below_expression form)

  -- the depth of what is below an expression
  pub below_expression : ExpressionForm → ℕ
  below_expression (name_expression text) = 0
  below_expression (basic_literal kind) = 0
  below_expression (function_literal signature ss braces) = max (signature_depth signature) (statements_depth ss)
  below_expression (composite_literal t es) = max (expression_depth t) (expressions_depth es)
  below_expression (literal_value es) = expressions_depth es
  below_expression (key_value k v) = max (expression_depth k) (expression_depth v)
  below_expression (parenthesized e) = expression_depth e
  below_expression (selector_expression e n) = expression_depth e
  below_expression (index_expression e i) = max (expression_depth e) (expression_depth i)
  below_expression (instance_expression e es) = max (expression_depth e) (expressions_depth es)
  below_expression (slice_expression e low high most) =
      max (expression_depth e) (max (optional_depth low) (max (optional_depth high) (optional_depth most)))
  below_expression (type_assertion e t) = max (expression_depth e) (expression_depth t)
  below_expression (call_expression e es ellipsis) = max (expression_depth e) (expressions_depth es)
  below_expression (star_expression e) = expression_depth e
  below_expression (unary_expression op e) = expression_depth e
  below_expression (binary_expression op l r) = max (expression_depth l) (expression_depth r)
  below_expression (array_type n t) = max (expression_depth n) (expression_depth t)
  below_expression (ellipsis_array_type t) = expression_depth t
  below_expression (slice_type t) = expression_depth t
  below_expression (map_type k t) = max (expression_depth k) (expression_depth t)
  below_expression (channel_type direction t) = expression_depth t
  below_expression (function_type signature) = signature_depth signature
  below_expression (struct_type fs) = fields_depth fs
  below_expression (interface_type fs) = fields_depth fs

  pub expressions_depth : Expressions → ℕ
  expressions_depth no_expression = 0
  expressions_depth (expression_and e es) = max (expression_depth e) (expressions_depth es)

  pub optional_depth : OptionalExpression → ℕ
  optional_depth missing_expression = 0
  optional_depth (present_expression e) = expression_depth e

  pub signature_depth : Signature → ℕ
  signature_depth (signature_of ps rs brackets) = max (parameters_depth ps) (parameters_depth rs)

  pub parameters_depth : Parameters → ℕ
  parameters_depth no_parameter = 0
  parameters_depth (named_and n ellipsis t ps) = max (expression_depth t) (parameters_depth ps)
  parameters_depth (unnamed_and ellipsis t ps) = max (expression_depth t) (parameters_depth ps)
  parameters_depth (name_alone_and n ps) = parameters_depth ps

  -- a line that names a type to embed it counts nothing; an instance or a constraint is an expression
  pub fields_depth : Fields → ℕ
  fields_depth no_field = 0
  fields_depth (fields_and ns t tag span fs) = max (expression_depth t) (fields_depth fs)
  fields_depth (embedded_and star n tag span fs) = fields_depth fs
  fields_depth (element_and star t tag span fs) = max (expression_depth t) (fields_depth fs)
  fields_depth (method_and n signature span fs) = max (signature_depth signature) (fields_depth fs)

  pub statement_depth : Statement → ℕ
  statement_depth (statement_node form span) = suc (below_statement form)

  -- the depth of what is below a statement
  pub below_statement : StatementForm → ℕ
  below_statement empty_statement = 0
  below_statement (declaration_statement d) = declaration_depth d
  below_statement (labeled_statement n s) = statement_depth s
  below_statement (expression_statement e) = expression_depth e
  below_statement (send_statement c v) = max (expression_depth c) (expression_depth v)
  below_statement (increment_statement e) = expression_depth e
  below_statement (decrement_statement e) = expression_depth e
  below_statement (assignment ls rs) = max (expressions_depth ls) (expressions_depth rs)
  below_statement (operator_assignment op l r) = max (expression_depth l) (expression_depth r)
  below_statement (define_statement ns rs) = expressions_depth rs
  below_statement (go_statement e) = expression_depth e
  below_statement (defer_statement e) = expression_depth e
  below_statement (return_statement es) = expressions_depth es
  below_statement (break_statement n) = 0
  below_statement (continue_statement n) = 0
  below_statement (goto_statement n) = 0
  below_statement fallthrough_statement = 0
  below_statement (block_statement ss braces) = statements_depth ss
  below_statement (if_statement init semicolon c ss braces otherwise) =
      max (optional_statement_depth init) (max (expression_depth c) (max (statements_depth ss) (else_depth otherwise)))
  below_statement (for_statement init c post semicolons ss braces) =
      max (optional_statement_depth init)
      (max (optional_depth c) (max (optional_statement_depth post) (statements_depth ss)))
  below_statement (range_assignment ls e ss braces) =
      max (expressions_depth ls) (max (expression_depth e) (statements_depth ss))
  below_statement (range_definition ns e ss braces) = max (expression_depth e) (statements_depth ss)
  below_statement (switch_statement init semicolon tag cs) =
      max (optional_statement_depth init) (max (optional_depth tag) (cases_depth cs))
  below_statement (type_switch_statement init semicolon n e cs) =
      max (optional_statement_depth init) (max (expression_depth e) (cases_depth cs))
  below_statement (select_statement cs) = communications_depth cs

  pub statements_depth : Statements → ℕ
  statements_depth no_statement = 0
  statements_depth (statement_and s ss) = max (statement_depth s) (statements_depth ss)

  pub optional_statement_depth : OptionalStatement → ℕ
  optional_statement_depth missing_statement = 0
  optional_statement_depth (present_statement s) = statement_depth s

  pub else_depth : OptionalStatement → ℕ
  else_depth missing_statement = 0
  else_depth (present_statement s) = else_branch_depth s

  pub else_branch_depth : Statement → ℕ
  else_branch_depth (statement_node form span) = count_else form (below_statement form)

  pub cases_depth : CaseClauses → ℕ
  cases_depth no_case = 0
  cases_depth (case_and es ss span cs) = max (expressions_depth es) (max (statements_depth ss) (cases_depth cs))

  pub communications_depth : CommunicationClauses → ℕ
  communications_depth no_communication = 0
  communications_depth (communication_and c ss span cs) =
      max (optional_statement_depth c) (max (statements_depth ss) (communications_depth cs))

  pub declaration_depth : Declaration → ℕ
  declaration_depth (declaration_of keyword specs brackets span) = specs_depth specs

  pub specs_depth : Specs → ℕ
  specs_depth no_spec = 0
  specs_depth (value_and ns t es span specs) =
      max (optional_depth t) (max (expressions_depth es) (specs_depth specs))
  specs_depth (type_and n ps alias t span specs) =
      max (parameters_depth ps) (max (expression_depth t) (specs_depth specs))

abbrev pub receiver_depth : Option Parameters → ℕ
receiver_depth None = 0
receiver_depth (Some ps) = parameters_depth ps

abbrev pub body_depth : Option Block → ℕ
body_depth None = 0
body_depth (Some b) = statements_depth b.statements

abbrev pub function_depth : Function → ℕ
function_depth f =
    max (receiver_depth f.receiver)
    (max (parameters_depth f.type_parameters) (max (signature_depth f.signature) (body_depth f.body)))

abbrev pub top_level_depth : TopLevelDeclaration → ℕ
top_level_depth (function_declaration f) = function_depth f
top_level_depth (general_declaration d) = declaration_depth d

abbrev pub top_levels_depth : List TopLevelDeclaration → ℕ
top_levels_depth [] = 0
top_levels_depth (d ∷ ds) = max (top_level_depth d) (top_levels_depth ds)

abbrev pub file_depth : SourceFile → ℕ
file_depth file = top_levels_depth file.declarations
