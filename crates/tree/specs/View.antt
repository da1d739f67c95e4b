-- The syntax that a value in memory stands for: each node's kind with the syntax of its parts and its span, and
-- nothing of its addresses and capacities. A `Vec` is read into the syntax's own lists.
use Rattle.std.specs.Prelude.{List, [], ◌∷◌, map, Option, Some, None, option_map, string_bytes}
use Rattle.std.specs.declared.alloc.Global.{Global}
use Rattle.std.specs.declared.boxed.Box.{Box}
use Rattle.tree.specs.declared.declaration.Decl.{Decl}
use Rattle.tree.specs.declared.declaration.Spec.{Spec, Value', Type', Held-Spec-Value-1, Spec-Value-1-None', Spec-Value-1-Some', Row_of-Expr, end_of-Expr, more_of-Expr, Row_of-Param, end_of-Param, more_of-Param}
use Rattle.tree.specs.declared.expression.Expr.{Expr}
use Rattle.tree.specs.declared.expression.ExprKind.{ExprKind, Name, BasicLit, FuncLit', CompositeLit', LiteralValue', KeyValue', Paren', Selector', Index', Instance', Slice', TypeAssert', Call', Star', Unary', Binary', ArrayType', EllipsisArrayType', SliceType', MapType', ChanType', FuncType', StructType', InterfaceType', Row_of-Field, end_of-Field, more_of-Field}
use Rattle.tree.specs.declared.expression.Field.{Field, Named' as NamedField', Embedded, Element', Method'}
use Rattle.tree.specs.declared.expression.Bounds.{Bounds, Bounds'}
use Rattle.tree.specs.declared.expression.Literal.{Literal, Literal'}
use Rattle.tree.specs.declared.expression.Param.{Param, Named' as NamedParam', Unnamed', NameAlone}
use Rattle.tree.specs.declared.expression.Signature.{Signature as KeptSignature}
use Rattle.tree.specs.declared.file.File.{File}
use Rattle.tree.specs.declared.file.Func.{Func}
use Rattle.tree.specs.declared.file.ImportDecl.{ImportDecl}
use Rattle.tree.specs.declared.file.ImportSpec.{ImportSpec as KeptImport}
use Rattle.tree.specs.declared.file.TopLevelDecl.{TopLevelDecl}
use Rattle.tree.specs.declared.file.TopLevelDecl.TheVariants.{Func as FuncAtTop, Decl as DeclAtTop}
use Rattle.tree.specs.declared.span.Identifier.{Identifier as KeptIdentifier}
use Rattle.tree.specs.declared.span.Span.{Span}
use Rattle.tree.specs.declared.span.TypeName.{TypeName as KeptTypeName}
use Rattle.tree.specs.declared.statement.Block.{Block as KeptBlock, Block', Row_of-Stmt, end_of-Stmt, more_of-Stmt}
use Rattle.tree.specs.declared.statement.CaseClause.{CaseClause, CaseClause'}
use Rattle.tree.specs.declared.statement.CommClause.{CommClause, CommClause'}
use Rattle.tree.specs.declared.statement.Stmt.{Stmt}
use Rattle.tree.specs.declared.statement.StmtKind.{StmtKind, Empty, Decl', Labeled', Expr', Send', Increment', Decrement', Assign', AssignOp', Define', Go', Defer', Return', Break, Continue, Goto, Fallthrough, Block as BlockStatement, If', For', RangeAssign', RangeDefine', Switch', TypeSwitch', Select', Row_of-Spec, end_of-Spec, more_of-Spec, Held-StmtKind-If-0, StmtKind-If-0-None', StmtKind-If-0-Some', Row_of-CaseClause, end_of-CaseClause, more_of-CaseClause, Row_of-CommClause, end_of-CommClause, more_of-CommClause}
use Rattle.tree.specs.Syntax.{Identifier, TypeName, Expression, expression_node, ExpressionForm, name_expression, basic_literal, function_literal, composite_literal, literal_value, key_value, parenthesized, selector_expression, index_expression, instance_expression, slice_expression, type_assertion, call_expression, star_expression, unary_expression, binary_expression, array_type, ellipsis_array_type, slice_type, map_type, channel_type, function_type, struct_type, interface_type, Expressions, no_expression, expression_and, OptionalExpression, missing_expression, present_expression, Signature, signature_of, Parameters, no_parameter, named_and, unnamed_and, name_alone_and, Fields, no_field, fields_and, embedded_and, element_and, method_and, Statement, statement_node, StatementForm, empty_statement, declaration_statement, labeled_statement, expression_statement, send_statement, increment_statement, decrement_statement, assignment, operator_assignment, define_statement, go_statement, defer_statement, return_statement, break_statement, continue_statement, goto_statement, fallthrough_statement, block_statement, if_statement, for_statement, range_assignment, range_definition, switch_statement, type_switch_statement, select_statement, Statements, no_statement, statement_and, OptionalStatement, missing_statement, present_statement, CaseClauses, no_case, case_and, CommunicationClauses, no_communication, communication_and, Declaration, declaration_of, Specs, no_spec, value_and, type_and, ImportSpec, ImportDeclaration, Block, Function, TopLevelDeclaration, function_declaration, general_declaration, SourceFile}

-- lists and options, as the syntax has them
abbrev pub expressions_of : List Expression → Expressions
expressions_of [] = no_expression
expressions_of (e ∷ es) = expression_and e (expressions_of es)

abbrev pub statements_of : List Statement → Statements
statements_of [] = no_statement
statements_of (s ∷ ss) = statement_and s (statements_of ss)

abbrev pub optional_expression_of : Option Expression → OptionalExpression
optional_expression_of None = missing_expression
optional_expression_of (Some e) = present_expression e

abbrev pub optional_statement_of : Option Statement → OptionalStatement
optional_statement_of None = missing_statement
optional_statement_of (Some s) = present_statement s

abbrev pub identifier_syntax : KeptIdentifier → Identifier
identifier_syntax n = record { text = n.text; span = n.span }

abbrev pub type_name_syntax : KeptTypeName → TypeName
type_name_syntax n = record {
  qualifier = option_map identifier_syntax n.package;
  name = identifier_syntax n.name;
  span = n.span;
}

abbrev pub block_braces : KeptBlock → Span
block_braces (Block' shape ss braces) = braces

unfoldable mutual
  pub expression_form : ExprKind → ExpressionForm
  expression_form (Name text) = name_expression text
  expression_form (BasicLit kind) = basic_literal kind
  expression_form (FuncLit' p literal) = literal_syntax literal
  expression_form (CompositeLit' p t span shape es) =
      composite_literal (expression_node (expression_form t) span) (row_expressions es)
  expression_form (LiteralValue' shape es) = literal_value (row_expressions es)
  expression_form (KeyValue' p k k_span q v v_span) =
      key_value (expression_node (expression_form k) k_span) (expression_node (expression_form v) v_span)
  expression_form (Paren' p e span) = parenthesized (expression_node (expression_form e) span)
  expression_form (Selector' p e span n) =
      selector_expression (expression_node (expression_form e) span) (identifier_syntax n)
  expression_form (Index' p e e_span q i i_span) =
      index_expression (expression_node (expression_form e) e_span) (expression_node (expression_form i) i_span)
  expression_form (Instance' p e span shape es) =
      instance_expression (expression_node (expression_form e) span) (row_expressions es)
  expression_form (Slice' p e span q bounds) =
      slice_expression (expression_node (expression_form e) span) (low_bound bounds) (high_bound bounds)
      (most_bound bounds)
  expression_form (TypeAssert' p e e_span q t t_span) =
      type_assertion (expression_node (expression_form e) e_span) (expression_node (expression_form t) t_span)
  expression_form (Call' p e span shape es ellipsis) =
      call_expression (expression_node (expression_form e) span) (row_expressions es) ellipsis
  expression_form (Star' p e span) = star_expression (expression_node (expression_form e) span)
  expression_form (Unary' op p e span) = unary_expression op (expression_node (expression_form e) span)
  expression_form (Binary' op p l l_span q r r_span) =
      binary_expression op (expression_node (expression_form l) l_span) (expression_node (expression_form r) r_span)
  expression_form (ArrayType' p n n_span q t t_span) =
      array_type (expression_node (expression_form n) n_span) (expression_node (expression_form t) t_span)
  expression_form (EllipsisArrayType' p t span) = ellipsis_array_type (expression_node (expression_form t) span)
  expression_form (SliceType' p t span) = slice_type (expression_node (expression_form t) span)
  expression_form (MapType' p k k_span q t t_span) =
      map_type (expression_node (expression_form k) k_span) (expression_node (expression_form t) t_span)
  expression_form (ChanType' direction p t span) =
      channel_type direction (expression_node (expression_form t) span)
  expression_form (FuncType' p ps_shape ps rs_shape rs brackets) =
      function_type (signature_of (row_parameters ps) (row_parameters rs) brackets)
  expression_form (StructType' shape fs) = struct_type (row_fields fs)
  expression_form (InterfaceType' shape fs) = interface_type (row_fields fs)

  pub low_bound : Bounds → OptionalExpression
  low_bound (Bounds' low high most) = held_expression low

  pub high_bound : Bounds → OptionalExpression
  high_bound (Bounds' low high most) = held_expression high

  pub most_bound : Bounds → OptionalExpression
  most_bound (Bounds' low high most) = held_expression most

  pub literal_syntax : Literal → ExpressionForm
  literal_syntax (Literal' ps_shape ps rs_shape rs brackets body) =
      function_literal (signature_of (row_parameters ps) (row_parameters rs) brackets) (block_statements body)
      (block_braces body)

  pub row_expressions : {m : _} → Row_of-Expr m → Expressions
  row_expressions end_of-Expr = no_expression
  row_expressions (more_of-Expr e span es) =
      expression_and (expression_node (expression_form e) span) (row_expressions es)

  pub held_expression : Held-Spec-Value-1 → OptionalExpression
  held_expression Spec-Value-1-None' = missing_expression
  held_expression (Spec-Value-1-Some' p e span) = present_expression (expression_node (expression_form e) span)

  pub row_parameters : {m : _} → Row_of-Param m → Parameters
  row_parameters end_of-Param = no_parameter
  row_parameters (more_of-Param p ps) = parameter_and p (row_parameters ps)

  pub parameter_and : Param → Parameters → Parameters
  parameter_and (NamedParam' n ellipsis t span) ps =
      named_and (identifier_syntax n) ellipsis (expression_node (expression_form t) span) ps
  parameter_and (Unnamed' ellipsis t span) ps = unnamed_and ellipsis (expression_node (expression_form t) span) ps
  parameter_and (NameAlone n) ps = name_alone_and (identifier_syntax n) ps

  pub row_fields : {m : _} → Row_of-Field m → Fields
  row_fields end_of-Field = no_field
  row_fields (more_of-Field f fs) = field_and f (row_fields fs)

  pub field_and : Field → Fields → Fields
  field_and (NamedField' ns t t_span tag span) fs =
      fields_and (map identifier_syntax ns.items) (expression_node (expression_form t) t_span) tag span fs
  field_and (Embedded star n tag span) fs = embedded_and star (type_name_syntax n) tag span fs
  field_and (Element' star e e_span tag span) fs =
      element_and star (expression_node (expression_form e) e_span) tag span fs
  field_and (Method' n ps_shape ps rs_shape rs brackets span) fs =
      method_and (identifier_syntax n) (signature_of (row_parameters ps) (row_parameters rs) brackets) span fs

  pub statement_form : StmtKind → StatementForm
  statement_form Empty = empty_statement
  statement_form (Decl' keyword shape specs brackets span) =
      declaration_statement (declaration_of keyword (row_specs specs) brackets span)
  statement_form (Labeled' n p s span) =
      labeled_statement (identifier_syntax n) (statement_node (statement_form s) span)
  statement_form (Expr' e span) = expression_statement (expression_node (expression_form e) span)
  statement_form (Send' p c c_span q v v_span) =
      send_statement (expression_node (expression_form c) c_span) (expression_node (expression_form v) v_span)
  statement_form (Increment' e span) = increment_statement (expression_node (expression_form e) span)
  statement_form (Decrement' e span) = decrement_statement (expression_node (expression_form e) span)
  statement_form (Assign' ls_shape ls rs_shape rs) = assignment (row_expressions ls) (row_expressions rs)
  statement_form (AssignOp' op p l l_span q r r_span) =
      operator_assignment op (expression_node (expression_form l) l_span) (expression_node (expression_form r) r_span)
  statement_form (Define' ns shape es) = define_statement (map identifier_syntax ns.items) (row_expressions es)
  statement_form (Go' e span) = go_statement (expression_node (expression_form e) span)
  statement_form (Defer' e span) = defer_statement (expression_node (expression_form e) span)
  statement_form (Return' shape es) = return_statement (row_expressions es)
  statement_form (Break label) = break_statement (option_map identifier_syntax label)
  statement_form (Continue label) = continue_statement (option_map identifier_syntax label)
  statement_form (Goto label) = goto_statement (identifier_syntax label)
  statement_form Fallthrough = fallthrough_statement
  statement_form (BlockStatement b) = block_statement (block_statements b) (block_braces b)
  statement_form (If' init semicolon p c span body otherwise) =
      if_statement (held_statement init) semicolon (expression_node (expression_form c) span) (block_statements body)
      (block_braces body) (held_statement otherwise)
  statement_form (For' init c post semicolons body) =
      for_statement (held_statement init) (held_expression c) (held_statement post) semicolons
      (block_statements body) (block_braces body)
  statement_form (RangeAssign' shape ls p e span body) =
      range_assignment (row_expressions ls) (expression_node (expression_form e) span) (block_statements body)
      (block_braces body)
  statement_form (RangeDefine' ns p e span body) =
      range_definition (map identifier_syntax ns.items) (expression_node (expression_form e) span)
      (block_statements body) (block_braces body)
  statement_form (Switch' init semicolon tag shape cs) =
      switch_statement (held_statement init) semicolon (held_expression tag) (row_cases cs)
  statement_form (TypeSwitch' init semicolon n p e span shape cs) =
      type_switch_statement (held_statement init) semicolon (option_map identifier_syntax n)
      (expression_node (expression_form e) span) (row_cases cs)
  statement_form (Select' shape cs) = select_statement (row_communications cs)

  pub block_statements : KeptBlock → Statements
  block_statements (Block' shape ss braces) = row_statements ss

  pub row_statements : {m : _} → Row_of-Stmt m → Statements
  row_statements end_of-Stmt = no_statement
  row_statements (more_of-Stmt s span ss) = statement_and (statement_node (statement_form s) span) (row_statements ss)

  pub held_statement : Held-StmtKind-If-0 → OptionalStatement
  held_statement StmtKind-If-0-None' = missing_statement
  held_statement (StmtKind-If-0-Some' p s span) = present_statement (statement_node (statement_form s) span)

  pub row_cases : {m : _} → Row_of-CaseClause m → CaseClauses
  row_cases end_of-CaseClause = no_case
  row_cases (more_of-CaseClause c cs) = case_clause_and c (row_cases cs)

  pub case_clause_and : CaseClause → CaseClauses → CaseClauses
  case_clause_and (CaseClause' es_shape es ss_shape ss span) cs =
      case_and (row_expressions es) (row_statements ss) span cs

  pub row_communications : {m : _} → Row_of-CommClause m → CommunicationClauses
  row_communications end_of-CommClause = no_communication
  row_communications (more_of-CommClause c cs) = communication_clause_and c (row_communications cs)

  pub communication_clause_and : CommClause → CommunicationClauses → CommunicationClauses
  communication_clause_and (CommClause' s shape ss span) cs =
      communication_and (held_statement s) (row_statements ss) span cs

  pub row_specs : {m : _} → Row_of-Spec m → Specs
  row_specs end_of-Spec = no_spec
  row_specs (more_of-Spec s specs) = spec_and s (row_specs specs)

  pub spec_and : Spec → Specs → Specs
  spec_and (Value' ns t shape es span) specs =
      value_and (map identifier_syntax ns.items) (held_expression t) (row_expressions es) span specs
  spec_and (Type' n shape ps alias p t t_span span) specs =
      type_and (identifier_syntax n) (row_parameters ps) alias (expression_node (expression_form t) t_span) span specs

abbrev pub expression_syntax : Expr → Expression
expression_syntax e = expression_node (expression_form e.kind) e.span

abbrev pub expressions_syntax : List Expr → Expressions
expressions_syntax es = expressions_of (map expression_syntax es)

abbrev pub optional_expression_syntax : Option (Box Expr Global) → OptionalExpression
optional_expression_syntax e = optional_expression_of (option_map (λ b. expression_syntax b.value) e)

abbrev pub parameters_syntax : List Param → Parameters
parameters_syntax [] = no_parameter
parameters_syntax (p ∷ ps) = parameter_and p (parameters_syntax ps)

abbrev pub signature_syntax : KeptSignature → Signature
signature_syntax s =
    signature_of (parameters_syntax s.params.items) (parameters_syntax s.results.items) s.has_result_brackets

abbrev pub fields_syntax : List Field → Fields
fields_syntax [] = no_field
fields_syntax (f ∷ fs) = field_and f (fields_syntax fs)

abbrev pub statement_syntax : Stmt → Statement
statement_syntax s = statement_node (statement_form s.kind) s.span

abbrev pub statements_syntax : List Stmt → Statements
statements_syntax ss = statements_of (map statement_syntax ss)

abbrev pub optional_statement_syntax : Option (Box Stmt Global) → OptionalStatement
optional_statement_syntax s = optional_statement_of (option_map (λ b. statement_syntax b.value) s)

abbrev pub block_syntax : KeptBlock → Block
block_syntax b = record { statements = block_statements b; braces = block_braces b }

abbrev pub cases_syntax : List CaseClause → CaseClauses
cases_syntax [] = no_case
cases_syntax (c ∷ cs) = case_clause_and c (cases_syntax cs)

abbrev pub communications_syntax : List CommClause → CommunicationClauses
communications_syntax [] = no_communication
communications_syntax (c ∷ cs) = communication_clause_and c (communications_syntax cs)

abbrev pub specs_syntax : List Spec → Specs
specs_syntax [] = no_spec
specs_syntax (s ∷ specs) = spec_and s (specs_syntax specs)

abbrev pub declaration_syntax : Decl → Declaration
declaration_syntax d = declaration_of d.keyword (specs_syntax d.specs.items) d.is_grouped d.span

abbrev pub function_syntax : Func → Function
function_syntax f = record {
  receiver = option_map (λ ps. parameters_syntax ps.items) f.receiver;
  name = identifier_syntax f.name;
  type_parameters = parameters_syntax f.type_params.items;
  signature = signature_syntax f.signature;
  body = option_map block_syntax f.body;
  span = f.span;
}

abbrev pub top_level_syntax : TopLevelDecl → TopLevelDeclaration
top_level_syntax (FuncAtTop f) = function_declaration (function_syntax f)
top_level_syntax (DeclAtTop d) = general_declaration (declaration_syntax d)

abbrev pub import_spec_syntax : KeptImport → ImportSpec
import_spec_syntax i = record {
  name = option_map identifier_syntax i.name;
  path = string_bytes i.path;
  path_span = i.path_span;
  span = i.span;
}

abbrev pub import_syntax : ImportDecl → ImportDeclaration
import_syntax i = record { specs = map import_spec_syntax i.specs.items; is_grouped = i.is_grouped; span = i.span }

abbrev pub file_syntax : File → SourceFile
file_syntax f = record {
  package_name = identifier_syntax f.package_name;
  imports = map import_syntax f.imports.items;
  declarations = map top_level_syntax f.declarations.items;
  span = f.span;
}
