-- The names of a tree, form by form: which functions declare, and which are used. A declaration belongs to a block, and
-- its scope is the rest of that block from some offset on. Blocks are: that of a function, which begins at its `{` and
-- has its receiver, parameters and results; each other pair of braces around statements; each `if`, `for` and `switch`
-- as a whole; each clause of a `switch` or `select`; and what follows the name of a function, method or new type, which
-- has its type parameters. Of two blocks around one offset the one that begins later is the inner one. OuterBlocks has
-- what is declared outside functions.
-- A use is a name in an expression or a type, a key of a composite literal, or an embedded type or interface element.
-- Names that are declared, labels, fields, methods and what stands after a dot are none. A name that `:=` only assigns
-- to is a use too; which those are, Declarations says.
-- (The Go specification, "Blocks", "Declarations and scope", "Blank identifier", "Short variable declarations", "Type
-- switches", "For statements", "Select statements", "Type parameter declarations", "Method declarations".)
use Rattle.std.specs.Prelude.{ℕ, ◌==◌, Bool, true, false, not, if◌then◌else◌, List, [], ◌∷◌, ◌++◌, Option, Some, None}
use Rattle.std.specs.List.{list_any, filter}
use Rattle.std.specs.Str.{bytes_eq}
use Rattle.lexer.specs.Bytes.{underscore}
use Rattle.tree.specs.declared.operator.DeclKeyword.{DeclKeyword}
use Rattle.tree.specs.declared.operator.DeclKeyword.TheVariants.{Var, «Type» as type_keyword}
use Rattle.tree.specs.declared.span.Span.{Span}
use Rattle.tree.specs.Syntax.{Identifier, TypeName, Expression, expression_node, ExpressionForm, name_expression, basic_literal, function_literal, composite_literal, literal_value, key_value, parenthesized, selector_expression, index_expression, instance_expression, slice_expression, type_assertion, call_expression, star_expression, unary_expression, binary_expression, array_type, ellipsis_array_type, slice_type, map_type, channel_type, function_type, struct_type, interface_type, Expressions, no_expression, expression_and, OptionalExpression, missing_expression, present_expression, Signature, signature_of, Parameters, no_parameter, named_and, unnamed_and, name_alone_and, Fields, no_field, fields_and, embedded_and, element_and, method_and, Statement, statement_node, StatementForm, empty_statement, declaration_statement, labeled_statement, expression_statement, send_statement, increment_statement, decrement_statement, assignment, operator_assignment, define_statement, go_statement, defer_statement, return_statement, break_statement, continue_statement, goto_statement, fallthrough_statement, block_statement, if_statement, for_statement, range_assignment, range_definition, switch_statement, type_switch_statement, select_statement, Statements, no_statement, statement_and, OptionalStatement, missing_statement, present_statement, CaseClauses, no_case, case_and, CommunicationClauses, no_communication, communication_and, Declaration, declaration_of, Specs, no_spec, value_and, type_and, Block, Function, TopLevelDeclaration, function_declaration, general_declaration, SourceFile}

-- what a function declares
pub record LocalName : Type 0 where
  pub name : List ℕ
  -- the offset of the name that declares it; in a clause of a type switch, of the clause's keyword
  pub number : ℕ
  -- a constant, a variable or a type
  pub kind : DeclKeyword
  -- the bytes of the block that it is declared in
  pub block : Span
  -- where its scope begins
  pub from : ℕ
  -- declared by `:=`, which may only assign
  pub is_short : Bool

-- one name of a text: used at an offset, or declared
pub data Naming : Type 0 where
  uses_name : List ℕ → ℕ → Naming
  declares_name : LocalName → Naming

abbrev pub is_blank : List ℕ → Bool
is_blank name = bytes_eq name (underscore ∷ [])

-- the blank identifier declares nothing
abbrev pub declared : LocalName → List Naming
declared l = if is_blank l.name then [] else declares_name l ∷ []

-- names that are declared together
abbrev pub declared_names : DeclKeyword → Span → ℕ → Bool → List Identifier → List Naming
declared_names kind block from is_short [] = []
declared_names kind block from is_short (n ∷ ns) =
    declared
    record {
      name = n.text;
      number = n.span.start;
      kind = kind;
      block = block;
      from = from;
      is_short = is_short;
    }
    ++ declared_names kind block from is_short ns

-- a receiver, a parameter or a result: its scope is the whole block of its function
abbrev pub parameter_name : Span → Identifier → List Naming
parameter_name block n = declared_names Var block block.start false (n ∷ [])

-- what a list of them declares in the block of its function
abbrev pub parameters_declared : Span → Parameters → List Naming
parameters_declared block no_parameter = []
parameters_declared block (named_and n ellipsis t ps) = parameter_name block n ++ parameters_declared block ps
parameters_declared block (unnamed_and ellipsis t ps) = parameters_declared block ps
parameters_declared block (name_alone_and n ps) = parameter_name block n ++ parameters_declared block ps

abbrev pub signature_declared : Span → Signature → List Naming
signature_declared block (signature_of ps rs brackets) = parameters_declared block ps ++ parameters_declared block rs

-- a local type, from its own name on
abbrev pub type_declared : Span → Identifier → List Naming
type_declared block n = declared_names type_keyword block n.span.start false (n ∷ [])

-- Type parameters

-- the block of those of a function, method or new type: it begins behind its name, and ends with the function or spec
abbrev pub behind_name : Identifier → Span → Span
behind_name n span = record { start = n.span.end; end = span.end }

-- they are local types, and their scope is the whole block
abbrev pub type_parameters_declared : Span → List Identifier → List Naming
type_parameters_declared block ns = declared_names type_keyword block block.start false ns

-- the names in a list of parameters
abbrev pub parameters_named : Parameters → List Identifier
parameters_named no_parameter = []
parameters_named (named_and n ellipsis t ps) = n ∷ parameters_named ps
parameters_named (unnamed_and ellipsis t ps) = parameters_named ps
parameters_named (name_alone_and n ps) = n ∷ parameters_named ps

-- the bare names among expressions
abbrev pub bare_names : Expressions → List Identifier
bare_names no_expression = []
bare_names (expression_and (expression_node (name_expression text) span) es) =
    record { text = text; span = span } ∷ bare_names es
bare_names (expression_and e es) = bare_names es

-- A receiver's type declares the type parameters of its method: the bare names in the brackets behind its own name.
abbrev pub named_in_type : Expression → List Identifier
named_in_type (expression_node (parenthesized t) span) = named_in_type t
named_in_type (expression_node (star_expression t) span) = named_in_type t
named_in_type (expression_node (index_expression t p) span) = bare_names (expression_and p no_expression)
named_in_type (expression_node (instance_expression t ps) span) = bare_names ps
named_in_type t = []

abbrev pub named_in_types : Parameters → List Identifier
named_in_types no_parameter = []
named_in_types (named_and n ellipsis t ps) = named_in_type t ++ named_in_types ps
named_in_types (unnamed_and ellipsis t ps) = named_in_type t ++ named_in_types ps
named_in_types (name_alone_and n ps) = named_in_types ps

abbrev pub named_in_receiver : Option Parameters → List Identifier
named_in_receiver None = []
named_in_receiver (Some ps) = named_in_types ps

abbrev pub end_of : Expression → ℕ
end_of (expression_node form span) = span.end

-- where the last of these ends, or else the offset
abbrev pub end_of_last : ℕ → Expressions → ℕ
end_of_last end no_expression = end
end_of_last end (expression_and e es) = end_of_last (end_of e) es

-- the name of a type switch, anew in each clause, after the clause's list of types
abbrev pub guard_declared : Option Identifier → Span → Expressions → List Naming
guard_declared None clause types = []
guard_declared (Some n) clause types =
    declared
    record {
      name = n.text;
      number = clause.start;
      kind = Var;
      block = clause;
      from = end_of_last clause.start types;
      is_short = false;
    }

-- an embedded type is used by its first name
abbrev pub first_of : Option Identifier → Identifier → Identifier
first_of None n = n
first_of (Some q) n = q

abbrev pub embedded_name : TypeName → List Naming
embedded_name t = let n = first_of t.qualifier t.name in uses_name n.text n.span.start ∷ []

unfoldable mutual
  pub expression_names : Expression → List Naming
  expression_names (expression_node form span) = expression_form_names span.start form

  -- the names of an expression that begins at the offset
  pub expression_form_names : ℕ → ExpressionForm → List Naming
  expression_form_names at (name_expression text) = uses_name text at ∷ []
  expression_form_names at (basic_literal kind) = []
  expression_form_names at (function_literal signature ss braces) =
      signature_names signature ++ (signature_declared braces signature ++ statements_names braces ss)
  expression_form_names at (composite_literal t es) = expression_names t ++ expressions_names es
  expression_form_names at (literal_value es) = expressions_names es
  expression_form_names at (key_value k v) = expression_names k ++ expression_names v
  expression_form_names at (parenthesized e) = expression_names e
  expression_form_names at (selector_expression e n) = expression_names e
  expression_form_names at (index_expression e i) = expression_names e ++ expression_names i
  expression_form_names at (instance_expression e es) = expression_names e ++ expressions_names es
  expression_form_names at (slice_expression e low high most) =
      expression_names e ++ (optional_names low ++ (optional_names high ++ optional_names most))
  expression_form_names at (type_assertion e t) = expression_names e ++ expression_names t
  expression_form_names at (call_expression e es ellipsis) = expression_names e ++ expressions_names es
  expression_form_names at (star_expression e) = expression_names e
  expression_form_names at (unary_expression op e) = expression_names e
  expression_form_names at (binary_expression op l r) = expression_names l ++ expression_names r
  expression_form_names at (array_type n t) = expression_names n ++ expression_names t
  expression_form_names at (ellipsis_array_type t) = expression_names t
  expression_form_names at (slice_type t) = expression_names t
  expression_form_names at (map_type k t) = expression_names k ++ expression_names t
  expression_form_names at (channel_type direction t) = expression_names t
  expression_form_names at (function_type signature) = signature_names signature
  expression_form_names at (struct_type fs) = fields_names fs
  expression_form_names at (interface_type fs) = fields_names fs

  pub expressions_names : Expressions → List Naming
  expressions_names no_expression = []
  expressions_names (expression_and e es) = expression_names e ++ expressions_names es

  pub optional_names : OptionalExpression → List Naming
  optional_names missing_expression = []
  optional_names (present_expression e) = expression_names e

  -- the names of a signature's types
  pub signature_names : Signature → List Naming
  signature_names (signature_of ps rs brackets) = parameters_names ps ++ parameters_names rs

  pub parameters_names : Parameters → List Naming
  parameters_names no_parameter = []
  parameters_names (named_and n ellipsis t ps) = expression_names t ++ parameters_names ps
  parameters_names (unnamed_and ellipsis t ps) = expression_names t ++ parameters_names ps
  parameters_names (name_alone_and n ps) = parameters_names ps

  pub fields_names : Fields → List Naming
  fields_names no_field = []
  fields_names (fields_and ns t tag span fs) = expression_names t ++ fields_names fs
  fields_names (embedded_and star n tag span fs) = embedded_name n ++ fields_names fs
  fields_names (element_and star t tag span fs) = expression_names t ++ fields_names fs
  fields_names (method_and n signature span fs) = signature_names signature ++ fields_names fs

  -- the names of a statement that stands in the block
  pub statement_names : Span → Statement → List Naming
  statement_names block (statement_node form span) = statement_form_names block span form

  -- the names of a statement that takes the bytes of the span
  pub statement_form_names : Span → Span → StatementForm → List Naming
  statement_form_names block span empty_statement = []
  statement_form_names block span (declaration_statement d) = declaration_names block d
  statement_form_names block span (labeled_statement n s) = statement_names block s
  statement_form_names block span (expression_statement e) = expression_names e
  statement_form_names block span (send_statement c v) = expression_names c ++ expression_names v
  statement_form_names block span (increment_statement e) = expression_names e
  statement_form_names block span (decrement_statement e) = expression_names e
  statement_form_names block span (assignment ls rs) = expressions_names ls ++ expressions_names rs
  statement_form_names block span (operator_assignment op l r) = expression_names l ++ expression_names r
  statement_form_names block span (define_statement ns rs) =
      expressions_names rs ++ declared_names Var block span.end true ns
  statement_form_names block span (go_statement e) = expression_names e
  statement_form_names block span (defer_statement e) = expression_names e
  statement_form_names block span (return_statement es) = expressions_names es
  statement_form_names block span (break_statement n) = []
  statement_form_names block span (continue_statement n) = []
  statement_form_names block span (goto_statement n) = []
  statement_form_names block span fallthrough_statement = []
  statement_form_names block span (block_statement ss braces) = statements_names braces ss
  statement_form_names block span (if_statement init has_semicolon c ss braces otherwise) =
      optional_statement_names span init
      ++ (expression_names c ++ (statements_names braces ss ++ optional_statement_names span otherwise))
  statement_form_names block span (for_statement init c post has_semicolons ss braces) =
      optional_statement_names span init
      ++ (optional_names c ++ (optional_statement_names span post ++ statements_names braces ss))
  statement_form_names block span (range_assignment ls e ss braces) =
      expressions_names ls ++ (expression_names e ++ statements_names braces ss)
  statement_form_names block span (range_definition ns e ss braces) =
      expression_names e ++ (declared_names Var span (end_of e) true ns ++ statements_names braces ss)
  statement_form_names block span (switch_statement init has_semicolon tag cs) =
      optional_statement_names span init ++ (optional_names tag ++ cases_names None cs)
  statement_form_names block span (type_switch_statement init has_semicolon n e cs) =
      optional_statement_names span init ++ (expression_names e ++ cases_names n cs)
  statement_form_names block span (select_statement cs) = communications_names cs

  pub statements_names : Span → Statements → List Naming
  statements_names block no_statement = []
  statements_names block (statement_and s ss) = statement_names block s ++ statements_names block ss

  pub optional_statement_names : Span → OptionalStatement → List Naming
  optional_statement_names block missing_statement = []
  optional_statement_names block (present_statement s) = statement_names block s

  -- the clauses of a switch, with the name of a type switch
  pub cases_names : Option Identifier → CaseClauses → List Naming
  cases_names guard no_case = []
  cases_names guard (case_and es ss span cs) =
      guard_declared guard span es ++ (expressions_names es ++ (statements_names span ss ++ cases_names guard cs))

  pub communications_names : CommunicationClauses → List Naming
  communications_names no_communication = []
  communications_names (communication_and c ss span cs) =
      optional_statement_names span c ++ (statements_names span ss ++ communications_names cs)

  pub declaration_names : Span → Declaration → List Naming
  declaration_names block (declaration_of keyword specs is_grouped span) = specs_names block keyword specs

  -- the scope of a constant or a variable begins after its own spec
  pub specs_names : Span → DeclKeyword → Specs → List Naming
  specs_names block keyword no_spec = []
  specs_names block keyword (value_and ns t es span specs) =
      optional_names t
      ++ (expressions_names es
      ++ (declared_names keyword block span.end false ns ++ specs_names block keyword specs))
  specs_names block keyword (type_and n ps is_alias t span specs) =
      type_declared block n
      ++ (type_parameters_declared (behind_name n span) (parameters_named ps)
      ++ (parameters_names ps ++ (expression_names t ++ specs_names block keyword specs)))

-- none of these names is what is used there
abbrev pub is_none_of : List Identifier → Naming → Bool
is_none_of ns (uses_name name at) = not (list_any (λ n. n.span.start == at) ns)
is_none_of ns (declares_name l) = true

-- the names that a receiver's type uses: all but those that it declares
abbrev pub receiver_names : Option Parameters → List Naming
receiver_names None = []
receiver_names (Some ps) = filter (is_none_of (named_in_types ps)) (parameters_names ps)

abbrev pub receiver_declared : Span → Option Parameters → List Naming
receiver_declared block None = []
receiver_declared block (Some ps) = parameters_declared block ps

-- what a block declares for its function, and the names of its statements
abbrev pub body_names : Option Parameters → Signature → Option Block → List Naming
body_names receiver signature None = []
body_names receiver signature (Some b) =
    receiver_declared b.braces receiver
    ++ (signature_declared b.braces signature ++ statements_names b.braces b.statements)

-- a function or method; one without a block declares its type parameters, and none of the others
abbrev pub function_names : Function → List Naming
function_names f =
    receiver_names f.receiver
    ++ (type_parameters_declared (behind_name f.name f.span)
    (named_in_receiver f.receiver ++ parameters_named f.type_parameters)
    ++ (parameters_names f.type_parameters
    ++ (signature_names f.signature ++ body_names f.receiver f.signature f.body)))

-- a declaration outside all functions: it declares no local but type parameters
abbrev pub outer_specs_names : Specs → List Naming
outer_specs_names no_spec = []
outer_specs_names (value_and ns t es span specs) =
    optional_names t ++ (expressions_names es ++ outer_specs_names specs)
outer_specs_names (type_and n ps is_alias t span specs) =
    type_parameters_declared (behind_name n span) (parameters_named ps)
    ++ (parameters_names ps ++ (expression_names t ++ outer_specs_names specs))

abbrev pub top_level_names : TopLevelDeclaration → List Naming
top_level_names (function_declaration f) = function_names f
top_level_names (general_declaration (declaration_of keyword specs is_grouped span)) = outer_specs_names specs

abbrev pub top_levels_names : List TopLevelDeclaration → List Naming
top_levels_names [] = []
top_levels_names (d ∷ ds) = top_level_names d ++ top_levels_names ds

-- the names that a file's functions declare, and those that are used anywhere in the file
abbrev pub file_names : SourceFile → List Naming
file_names file = top_levels_names file.declarations
