-- What the syntax of each node is, in the words of the code: one law a variant.
use Rattle.std.proofs.Common.{◌≡◌, ℕ, List, map, Option, Some, None, option_map, Bool, refl, sym, ap, ◌∙◌}
use Rattle.std.specs.declared.alloc.Global.{Global}
use Rattle.std.specs.declared.boxed.Box.{Box}
use Rattle.std.specs.declared.vec.Vec.{Vec}
use Rattle.tree.specs.declared.declaration.Decl.{Decl}
use Rattle.tree.specs.declared.declaration.Spec.{Spec, Value, «Type», back-Spec-Value-1, Row_of-Expr, end_of-Expr, more_of-Expr, items-the_row-Expr, items_hidden-the_row-Expr-0, Row_of-Param, end_of-Param, more_of-Param, items-the_row-Param, items_hidden-the_row-Param-1}
use Rattle.tree.specs.declared.declaration.Spec.TheBlock.{hidden-the_row-Expr-0, hidden-the_row-Param-1, hidden-the_row-Field-2, hidden-the_row-Spec-3, hidden-the_row-CaseClause-4, hidden-the_row-CommClause-5, hidden-the_row-Stmt-6}
use Rattle.tree.specs.declared.expression.Expr.{Expr}
use Rattle.tree.specs.declared.expression.ExprKind.{Name, BasicLit, FuncLit, CompositeLit, LiteralValue, KeyValue, Paren, Selector, Index, Instance, Slice, TypeAssert, Call, Star, Unary, Binary, ArrayType, EllipsisArrayType, SliceType, MapType, ChanType, FuncType, StructType, InterfaceType, Row_of-Field, end_of-Field, more_of-Field, items-the_row-Field, items_hidden-the_row-Field-2}
use Rattle.tree.specs.declared.expression.Field.{Field, Named as NamedField, Embedded, Element, Method}
use Rattle.tree.specs.declared.expression.Bounds.{Bounds, out-Bounds, roll-Bounds, rolls-Bounds', is-Bounds'}
use Rattle.tree.specs.declared.expression.Literal.{Literal, out-Literal, roll-Literal, rolls-Literal', is-Literal'}
use Rattle.tree.specs.declared.expression.Param.{Param, Named as NamedParam, Unnamed, NameAlone}
use Rattle.tree.specs.declared.expression.Signature.{Signature as KeptSignature}
use Rattle.tree.specs.declared.operator.BasicLitKind.{BasicLitKind}
use Rattle.tree.specs.declared.operator.BinaryOperator.{BinaryOperator}
use Rattle.tree.specs.declared.operator.ChanDirection.{ChanDirection}
use Rattle.tree.specs.declared.operator.UnaryOperator.{UnaryOperator}
use Rattle.tree.specs.declared.span.Identifier.{Identifier as KeptIdentifier}
use Rattle.tree.specs.declared.span.Span.{Span}
use Rattle.tree.specs.declared.span.TypeName.{TypeName as KeptTypeName}
use Rattle.tree.specs.declared.statement.Block.{Block as KeptBlock, out-Block, roll-Block, rolls-Block', is-Block', Row_of-Stmt, end_of-Stmt, more_of-Stmt, items-the_row-Stmt, items_hidden-the_row-Stmt-6}
use Rattle.tree.specs.declared.statement.CaseClause.{CaseClause, out-CaseClause, roll-CaseClause, rolls-CaseClause', is-CaseClause'}
use Rattle.tree.specs.declared.statement.CommClause.{CommClause, out-CommClause, roll-CommClause, rolls-CommClause', is-CommClause'}
use Rattle.tree.specs.declared.statement.Stmt.{Stmt}
use Rattle.tree.specs.declared.statement.StmtKind.{Empty, Decl as DeclStatement, Labeled, Expr as ExprStatement, Send, Increment, Decrement, Assign, AssignOp, Define, Go, Defer, Return, Break, Continue, Goto, Fallthrough, Block as BlockStatement, If, For, RangeAssign, RangeDefine, Switch, TypeSwitch, Select, back-StmtKind-If-0, Row_of-Spec, end_of-Spec, more_of-Spec, items-the_row-Spec, items_hidden-the_row-Spec-3, Row_of-CaseClause, end_of-CaseClause, more_of-CaseClause, items-the_row-CaseClause, items_hidden-the_row-CaseClause-4, Row_of-CommClause, end_of-CommClause, more_of-CommClause, items-the_row-CommClause, items_hidden-the_row-CommClause-5}
use Rattle.tree.specs.Syntax.{expression_node, name_expression, basic_literal, function_literal, composite_literal, literal_value, key_value, parenthesized, selector_expression, index_expression, instance_expression, slice_expression, type_assertion, call_expression, star_expression, unary_expression, binary_expression, array_type, ellipsis_array_type, slice_type, map_type, channel_type, function_type, struct_type, interface_type, expression_and, Signature, signature_of, Parameters, named_and, unnamed_and, name_alone_and, Fields, fields_and, embedded_and, element_and, method_and, statement_node, empty_statement, declaration_statement, labeled_statement, expression_statement, send_statement, increment_statement, decrement_statement, assignment, operator_assignment, define_statement, go_statement, defer_statement, return_statement, break_statement, continue_statement, goto_statement, fallthrough_statement, block_statement, if_statement, for_statement, range_assignment, range_definition, switch_statement, type_switch_statement, select_statement, statement_and, CaseClauses, case_and, CommunicationClauses, communication_and, declaration_of, Specs, value_and, type_and}
use Rattle.tree.specs.View.{identifier_syntax, type_name_syntax, block_braces, expression_form, low_bound, high_bound, most_bound, literal_syntax, row_expressions, held_expression, row_parameters, parameter_and, row_fields, field_and, statement_form, block_statements, row_statements, held_statement, row_cases, case_clause_and, row_communications, communication_clause_and, row_specs, spec_and, expression_syntax, expressions_syntax, optional_expression_syntax, parameters_syntax, signature_syntax, fields_syntax, statement_syntax, statements_syntax, optional_statement_syntax, block_syntax, cases_syntax, communications_syntax, specs_syntax, declaration_syntax}

pub row_expressions-items : (m : _) (es : Row_of-Expr m) → row_expressions es ≡ expressions_syntax (items-the_row-Expr m es)
unfolding row_expressions
row_expressions-items m end_of-Expr = refl
row_expressions-items m (more_of-Expr e span es) =
    ap (expression_and (expression_node (expression_form e) span)) (row_expressions-items _ es)

pub row_statements-items : (m : _) (ss : Row_of-Stmt m) → row_statements ss ≡ statements_syntax (items-the_row-Stmt m ss)
unfolding row_statements
row_statements-items m end_of-Stmt = refl
row_statements-items m (more_of-Stmt s span ss) =
    ap (statement_and (statement_node (statement_form s) span)) (row_statements-items _ ss)

pub row_parameters-items : (m : _) (ps : Row_of-Param m) → row_parameters ps ≡ parameters_syntax (items-the_row-Param m ps)
unfolding row_parameters
row_parameters-items m end_of-Param = refl
row_parameters-items m (more_of-Param p ps) = ap (parameter_and p) (row_parameters-items _ ps)

pub row_fields-items : (m : _) (fs : Row_of-Field m) → row_fields fs ≡ fields_syntax (items-the_row-Field m fs)
unfolding row_fields
row_fields-items m end_of-Field = refl
row_fields-items m (more_of-Field f fs) = ap (field_and f) (row_fields-items _ fs)

pub row_specs-items : (m : _) (ss : Row_of-Spec m) → row_specs ss ≡ specs_syntax (items-the_row-Spec m ss)
unfolding row_specs
row_specs-items m end_of-Spec = refl
row_specs-items m (more_of-Spec s ss) = ap (spec_and s) (row_specs-items _ ss)

pub row_cases-items : (m : _) (cs : Row_of-CaseClause m) → row_cases cs ≡ cases_syntax (items-the_row-CaseClause m cs)
unfolding row_cases
row_cases-items m end_of-CaseClause = refl
row_cases-items m (more_of-CaseClause c cs) = ap (case_clause_and c) (row_cases-items _ cs)

pub row_communications-items : (m : _) (cs : Row_of-CommClause m) → row_communications cs ≡ communications_syntax (items-the_row-CommClause m cs)
unfolding row_communications
row_communications-items m end_of-CommClause = refl
row_communications-items m (more_of-CommClause c cs) = ap (communication_clause_and c) (row_communications-items _ cs)

-- a `Vec` and an `Option` inside a node

pub expressions_kept : (es : Vec Expr Global) → row_expressions (hidden-the_row-Expr-0 es) ≡ expressions_syntax es.items
expressions_kept es = row_expressions-items _ (hidden-the_row-Expr-0 es) ∙ ap expressions_syntax (items_hidden-the_row-Expr-0 es)

pub statements_kept : (ss : Vec Stmt Global) → row_statements (hidden-the_row-Stmt-6 ss) ≡ statements_syntax ss.items
statements_kept ss = row_statements-items _ (hidden-the_row-Stmt-6 ss) ∙ ap statements_syntax (items_hidden-the_row-Stmt-6 ss)

pub parameters_kept : (ps : Vec Param Global) → row_parameters (hidden-the_row-Param-1 ps) ≡ parameters_syntax ps.items
parameters_kept ps = row_parameters-items _ (hidden-the_row-Param-1 ps) ∙ ap parameters_syntax (items_hidden-the_row-Param-1 ps)

pub fields_kept : (fs : Vec Field Global) → row_fields (hidden-the_row-Field-2 fs) ≡ fields_syntax fs.items
fields_kept fs = row_fields-items _ (hidden-the_row-Field-2 fs) ∙ ap fields_syntax (items_hidden-the_row-Field-2 fs)

pub specs_kept : (ss : Vec Spec Global) → row_specs (hidden-the_row-Spec-3 ss) ≡ specs_syntax ss.items
specs_kept ss = row_specs-items _ (hidden-the_row-Spec-3 ss) ∙ ap specs_syntax (items_hidden-the_row-Spec-3 ss)

pub cases_kept : (cs : Vec CaseClause Global) → row_cases (hidden-the_row-CaseClause-4 cs) ≡ cases_syntax cs.items
cases_kept cs = row_cases-items _ (hidden-the_row-CaseClause-4 cs) ∙ ap cases_syntax (items_hidden-the_row-CaseClause-4 cs)

pub communications_kept : (cs : Vec CommClause Global) → row_communications (hidden-the_row-CommClause-5 cs) ≡ communications_syntax cs.items
communications_kept cs =
    row_communications-items _ (hidden-the_row-CommClause-5 cs) ∙ ap communications_syntax (items_hidden-the_row-CommClause-5 cs)

pub expression_held : (e : Option (Box Expr Global)) → held_expression (back-Spec-Value-1 e) ≡ optional_expression_syntax e
unfolding held_expression
expression_held None = refl
expression_held (Some e) = refl

pub statement_held : (s : Option (Box Stmt Global)) → held_statement (back-StmtKind-If-0 s) ≡ optional_statement_syntax s
unfolding held_statement
statement_held None = refl
statement_held (Some s) = refl

abbrev signature_rows : KeptSignature → Signature
signature_rows s =
    signature_of (row_parameters (hidden-the_row-Param-1 s.params)) (row_parameters (hidden-the_row-Param-1 s.results))
    s.has_result_brackets

pub signature_kept : (s : KeptSignature) → signature_rows s ≡ signature_syntax s
signature_kept s =
    ap (λ l. signature_of l (row_parameters (hidden-the_row-Param-1 s.results)) s.has_result_brackets) (parameters_kept s.params)
    ∙ ap (λ l. signature_of (parameters_syntax s.params.items) l s.has_result_brackets) (parameters_kept s.results)

pub declaration_kept : (d : Decl) → declaration_of d.keyword (row_specs (hidden-the_row-Spec-3 d.specs)) d.is_grouped d.span ≡ declaration_syntax d
declaration_kept d = ap (λ l. declaration_of d.keyword l d.is_grouped d.span) (specs_kept d.specs)

pub expression_form-Name : (text : List ℕ) → expression_form (Name text) ≡ name_expression text
unfolding expression_form
expression_form-Name text = refl

pub expression_form-BasicLit : (kind : BasicLitKind) → expression_form (BasicLit kind) ≡ basic_literal kind
unfolding expression_form
expression_form-BasicLit kind = refl

pub expression_form-FuncLit : (literal : Box Literal Global) → expression_form (FuncLit literal) ≡ literal_syntax literal.value
unfolding expression_form
expression_form-FuncLit literal = refl

pub expression_form-CompositeLit : (t : Box Expr Global) (es : Vec Expr Global) → expression_form (CompositeLit t es) ≡ composite_literal (expression_syntax t.value) (expressions_syntax es.items)
unfolding expression_form
expression_form-CompositeLit t es =
    ap (λ l. composite_literal (expression_syntax t.value) l) (expressions_kept es)

pub expression_form-LiteralValue : (es : Vec Expr Global) → expression_form (LiteralValue es) ≡ literal_value (expressions_syntax es.items)
unfolding expression_form
expression_form-LiteralValue es =
    ap (λ l. literal_value l) (expressions_kept es)

pub expression_form-KeyValue : (k v : Box Expr Global) → expression_form (KeyValue k v) ≡ key_value (expression_syntax k.value) (expression_syntax v.value)
unfolding expression_form
expression_form-KeyValue k v = refl

pub expression_form-Paren : (e : Box Expr Global) → expression_form (Paren e) ≡ parenthesized (expression_syntax e.value)
unfolding expression_form
expression_form-Paren e = refl

pub expression_form-Selector : (e : Box Expr Global) (n : KeptIdentifier) → expression_form (Selector e n) ≡ selector_expression (expression_syntax e.value) (identifier_syntax n)
unfolding expression_form
expression_form-Selector e n = refl

pub expression_form-Index : (e i : Box Expr Global) → expression_form (Index e i) ≡ index_expression (expression_syntax e.value) (expression_syntax i.value)
unfolding expression_form
expression_form-Index e i = refl

pub expression_form-Instance : (e : Box Expr Global) (es : Vec Expr Global) → expression_form (Instance e es) ≡ instance_expression (expression_syntax e.value) (expressions_syntax es.items)
unfolding expression_form
expression_form-Instance e es =
    ap (λ l. instance_expression (expression_syntax e.value) l) (expressions_kept es)

pub expression_form-Slice : (e : Box Expr Global) (b : Box Bounds Global) → expression_form (Slice e b) ≡ slice_expression (expression_syntax e.value) (low_bound b.value) (high_bound b.value) (most_bound b.value)
unfolding expression_form
expression_form-Slice e b = refl

pub expression_form-TypeAssert : (e t : Box Expr Global) → expression_form (TypeAssert e t) ≡ type_assertion (expression_syntax e.value) (expression_syntax t.value)
unfolding expression_form
expression_form-TypeAssert e t = refl

pub expression_form-Call : (e : Box Expr Global) (es : Vec Expr Global) (ellipsis : Bool) → expression_form (Call e es ellipsis) ≡ call_expression (expression_syntax e.value) (expressions_syntax es.items) ellipsis
unfolding expression_form
expression_form-Call e es ellipsis =
    ap (λ l. call_expression (expression_syntax e.value) l ellipsis) (expressions_kept es)

pub expression_form-Star : (e : Box Expr Global) → expression_form (Star e) ≡ star_expression (expression_syntax e.value)
unfolding expression_form
expression_form-Star e = refl

pub expression_form-Unary : (op : UnaryOperator) (e : Box Expr Global) → expression_form (Unary op e) ≡ unary_expression op (expression_syntax e.value)
unfolding expression_form
expression_form-Unary op e = refl

pub expression_form-Binary : (op : BinaryOperator) (l r : Box Expr Global) → expression_form (Binary op l r) ≡ binary_expression op (expression_syntax l.value) (expression_syntax r.value)
unfolding expression_form
expression_form-Binary op l r = refl

pub expression_form-ArrayType : (n t : Box Expr Global) → expression_form (ArrayType n t) ≡ array_type (expression_syntax n.value) (expression_syntax t.value)
unfolding expression_form
expression_form-ArrayType n t = refl

pub expression_form-EllipsisArrayType : (t : Box Expr Global) → expression_form (EllipsisArrayType t) ≡ ellipsis_array_type (expression_syntax t.value)
unfolding expression_form
expression_form-EllipsisArrayType t = refl

pub expression_form-SliceType : (t : Box Expr Global) → expression_form (SliceType t) ≡ slice_type (expression_syntax t.value)
unfolding expression_form
expression_form-SliceType t = refl

pub expression_form-MapType : (k t : Box Expr Global) → expression_form (MapType k t) ≡ map_type (expression_syntax k.value) (expression_syntax t.value)
unfolding expression_form
expression_form-MapType k t = refl

pub expression_form-ChanType : (direction : ChanDirection) (t : Box Expr Global) → expression_form (ChanType direction t) ≡ channel_type direction (expression_syntax t.value)
unfolding expression_form
expression_form-ChanType direction t = refl

pub expression_form-FuncType : (s : Box KeptSignature Global) → expression_form (FuncType s) ≡ function_type (signature_syntax s.value)
unfolding expression_form
expression_form-FuncType s =
    ap (λ l. function_type l) (signature_kept s.value)

pub expression_form-StructType : (fs : Vec Field Global) → expression_form (StructType fs) ≡ struct_type (fields_syntax fs.items)
unfolding expression_form
expression_form-StructType fs =
    ap (λ l. struct_type l) (fields_kept fs)

pub expression_form-InterfaceType : (fs : Vec Field Global) → expression_form (InterfaceType fs) ≡ interface_type (fields_syntax fs.items)
unfolding expression_form
expression_form-InterfaceType fs =
    ap (λ l. interface_type l) (fields_kept fs)

pub statement_form-Empty : statement_form Empty ≡ empty_statement
unfolding statement_form
statement_form-Empty = refl

pub statement_form-Decl : (d : Decl) → statement_form (DeclStatement d) ≡ declaration_statement (declaration_syntax d)
unfolding statement_form
statement_form-Decl d =
    ap (λ l. declaration_statement l) (declaration_kept d)

pub statement_form-Labeled : (n : KeptIdentifier) (s : Box Stmt Global) → statement_form (Labeled n s) ≡ labeled_statement (identifier_syntax n) (statement_syntax s.value)
unfolding statement_form
statement_form-Labeled n s = refl

pub statement_form-Expr : (e : Expr) → statement_form (ExprStatement e) ≡ expression_statement (expression_syntax e)
unfolding statement_form
statement_form-Expr e = refl

pub statement_form-Send : (c v : Box Expr Global) → statement_form (Send c v) ≡ send_statement (expression_syntax c.value) (expression_syntax v.value)
unfolding statement_form
statement_form-Send c v = refl

pub statement_form-Increment : (e : Expr) → statement_form (Increment e) ≡ increment_statement (expression_syntax e)
unfolding statement_form
statement_form-Increment e = refl

pub statement_form-Decrement : (e : Expr) → statement_form (Decrement e) ≡ decrement_statement (expression_syntax e)
unfolding statement_form
statement_form-Decrement e = refl

pub statement_form-Assign : (ls rs : Vec Expr Global) → statement_form (Assign ls rs) ≡ assignment (expressions_syntax ls.items) (expressions_syntax rs.items)
unfolding statement_form
statement_form-Assign ls rs =
    ap (λ l. assignment l (row_expressions (hidden-the_row-Expr-0 rs))) (expressions_kept ls) ∙ ap (λ l. assignment (expressions_syntax ls.items) l) (expressions_kept rs)

pub statement_form-AssignOp : (op : BinaryOperator) (l r : Box Expr Global) → statement_form (AssignOp op l r) ≡ operator_assignment op (expression_syntax l.value) (expression_syntax r.value)
unfolding statement_form
statement_form-AssignOp op l r = refl

pub statement_form-Define : (ns : Vec KeptIdentifier Global) (es : Vec Expr Global) → statement_form (Define ns es) ≡ define_statement (map identifier_syntax ns.items) (expressions_syntax es.items)
unfolding statement_form
statement_form-Define ns es =
    ap (λ l. define_statement (map identifier_syntax ns.items) l) (expressions_kept es)

pub statement_form-Go : (e : Expr) → statement_form (Go e) ≡ go_statement (expression_syntax e)
unfolding statement_form
statement_form-Go e = refl

pub statement_form-Defer : (e : Expr) → statement_form (Defer e) ≡ defer_statement (expression_syntax e)
unfolding statement_form
statement_form-Defer e = refl

pub statement_form-Return : (es : Vec Expr Global) → statement_form (Return es) ≡ return_statement (expressions_syntax es.items)
unfolding statement_form
statement_form-Return es =
    ap (λ l. return_statement l) (expressions_kept es)

pub statement_form-Break : (label : Option KeptIdentifier) → statement_form (Break label) ≡ break_statement (option_map identifier_syntax label)
unfolding statement_form
statement_form-Break label = refl

pub statement_form-Continue : (label : Option KeptIdentifier) → statement_form (Continue label) ≡ continue_statement (option_map identifier_syntax label)
unfolding statement_form
statement_form-Continue label = refl

pub statement_form-Goto : (label : KeptIdentifier) → statement_form (Goto label) ≡ goto_statement (identifier_syntax label)
unfolding statement_form
statement_form-Goto label = refl

pub statement_form-Fallthrough : statement_form Fallthrough ≡ fallthrough_statement
unfolding statement_form
statement_form-Fallthrough = refl

pub statement_form-Block : (b : KeptBlock) → statement_form (BlockStatement b) ≡ block_statement (block_syntax b).statements (block_syntax b).braces
unfolding statement_form
statement_form-Block b = refl

pub statement_form-If : (init : Option (Box Stmt Global)) (semicolon : Bool) (c : Box Expr Global) (b : KeptBlock) (otherwise : Option (Box Stmt Global)) → statement_form (If init semicolon c b otherwise) ≡ if_statement (optional_statement_syntax init) semicolon (expression_syntax c.value) (block_syntax b).statements (block_syntax b).braces (optional_statement_syntax otherwise)
unfolding statement_form
statement_form-If init semicolon c b otherwise =
    ap (λ l. if_statement l semicolon (expression_syntax c.value) (block_syntax b).statements (block_syntax b).braces (held_statement (back-StmtKind-If-0 otherwise))) (statement_held init) ∙ ap (λ l. if_statement (optional_statement_syntax init) semicolon (expression_syntax c.value) (block_syntax b).statements (block_syntax b).braces l) (statement_held otherwise)

pub statement_form-For : (init : Option (Box Stmt Global)) (c : Option (Box Expr Global)) (post : Option (Box Stmt Global)) (semicolons : Bool) (b : KeptBlock) → statement_form (For init c post semicolons b) ≡ for_statement (optional_statement_syntax init) (optional_expression_syntax c) (optional_statement_syntax post) semicolons (block_syntax b).statements (block_syntax b).braces
unfolding statement_form
statement_form-For init c post semicolons b =
    ap (λ l. for_statement l (held_expression (back-Spec-Value-1 c)) (held_statement (back-StmtKind-If-0 post)) semicolons (block_syntax b).statements (block_syntax b).braces) (statement_held init) ∙ ap (λ l. for_statement (optional_statement_syntax init) l (held_statement (back-StmtKind-If-0 post)) semicolons (block_syntax b).statements (block_syntax b).braces) (expression_held c) ∙ ap (λ l. for_statement (optional_statement_syntax init) (optional_expression_syntax c) l semicolons (block_syntax b).statements (block_syntax b).braces) (statement_held post)

pub statement_form-RangeAssign : (ls : Vec Expr Global) (e : Box Expr Global) (b : KeptBlock) → statement_form (RangeAssign ls e b) ≡ range_assignment (expressions_syntax ls.items) (expression_syntax e.value) (block_syntax b).statements (block_syntax b).braces
unfolding statement_form
statement_form-RangeAssign ls e b =
    ap (λ l. range_assignment l (expression_syntax e.value) (block_syntax b).statements (block_syntax b).braces) (expressions_kept ls)

pub statement_form-RangeDefine : (ns : Vec KeptIdentifier Global) (e : Box Expr Global) (b : KeptBlock) → statement_form (RangeDefine ns e b) ≡ range_definition (map identifier_syntax ns.items) (expression_syntax e.value) (block_syntax b).statements (block_syntax b).braces
unfolding statement_form
statement_form-RangeDefine ns e b = refl

pub statement_form-Switch : (init : Option (Box Stmt Global)) (semicolon : Bool) (tag : Option (Box Expr Global)) (cs : Vec CaseClause Global) → statement_form (Switch init semicolon tag cs) ≡ switch_statement (optional_statement_syntax init) semicolon (optional_expression_syntax tag) (cases_syntax cs.items)
unfolding statement_form
statement_form-Switch init semicolon tag cs =
    ap (λ l. switch_statement l semicolon (held_expression (back-Spec-Value-1 tag)) (row_cases (hidden-the_row-CaseClause-4 cs))) (statement_held init) ∙ ap (λ l. switch_statement (optional_statement_syntax init) semicolon l (row_cases (hidden-the_row-CaseClause-4 cs))) (expression_held tag) ∙ ap (λ l. switch_statement (optional_statement_syntax init) semicolon (optional_expression_syntax tag) l) (cases_kept cs)

pub statement_form-TypeSwitch : (init : Option (Box Stmt Global)) (semicolon : Bool) (n : Option KeptIdentifier) (e : Box Expr Global) (cs : Vec CaseClause Global) → statement_form (TypeSwitch init semicolon n e cs) ≡ type_switch_statement (optional_statement_syntax init) semicolon (option_map identifier_syntax n) (expression_syntax e.value) (cases_syntax cs.items)
unfolding statement_form
statement_form-TypeSwitch init semicolon n e cs =
    ap (λ l. type_switch_statement l semicolon (option_map identifier_syntax n) (expression_syntax e.value) (row_cases (hidden-the_row-CaseClause-4 cs))) (statement_held init) ∙ ap (λ l. type_switch_statement (optional_statement_syntax init) semicolon (option_map identifier_syntax n) (expression_syntax e.value) l) (cases_kept cs)

pub statement_form-Select : (ms : Vec CommClause Global) → statement_form (Select ms) ≡ select_statement (communications_syntax ms.items)
unfolding statement_form
statement_form-Select ms =
    ap (λ l. select_statement l) (communications_kept ms)

pub parameter_and-Named : (n : KeptIdentifier) (ellipsis : Bool) (t : Expr) (ps : Parameters) → parameter_and (NamedParam n ellipsis t) ps ≡ named_and (identifier_syntax n) ellipsis (expression_syntax t) ps
unfolding parameter_and
parameter_and-Named n ellipsis t ps = refl

pub parameter_and-Unnamed : (ellipsis : Bool) (t : Expr) (ps : Parameters) → parameter_and (Unnamed ellipsis t) ps ≡ unnamed_and ellipsis (expression_syntax t) ps
unfolding parameter_and
parameter_and-Unnamed ellipsis t ps = refl

pub parameter_and-NameAlone : (n : KeptIdentifier) (ps : Parameters) → parameter_and (NameAlone n) ps ≡ name_alone_and (identifier_syntax n) ps
unfolding parameter_and
parameter_and-NameAlone n ps = refl

pub field_and-Named : (ns : Vec KeptIdentifier Global) (t : Expr) (tag : Option Span) (span : Span) (fs : Fields) → field_and (NamedField ns t tag span) fs ≡ fields_and (map identifier_syntax ns.items) (expression_syntax t) tag span fs
unfolding field_and
field_and-Named ns t tag span fs = refl

pub field_and-Embedded : (star : Bool) (n : KeptTypeName) (tag : Option Span) (span : Span) (fs : Fields) → field_and (Embedded star n tag span) fs ≡ embedded_and star (type_name_syntax n) tag span fs
unfolding field_and
field_and-Embedded star n tag span fs = refl

pub field_and-Element : (star : Bool) (e : Expr) (tag : Option Span) (span : Span) (fs : Fields) → field_and (Element star e tag span) fs ≡ element_and star (expression_syntax e) tag span fs
unfolding field_and
field_and-Element star e tag span fs = refl

pub field_and-Method : (n : KeptIdentifier) (s : KeptSignature) (span : Span) (fs : Fields) → field_and (Method n s span) fs ≡ method_and (identifier_syntax n) (signature_syntax s) span fs
unfolding field_and
field_and-Method n s span fs = ap (λ l. method_and (identifier_syntax n) l span fs) (signature_kept s)

pub spec_and-Value : (ns : Vec KeptIdentifier Global) (t : Option (Box Expr Global)) (es : Vec Expr Global) (span : Span) (ss : Specs) → spec_and (Value ns t es span) ss ≡ value_and (map identifier_syntax ns.items) (optional_expression_syntax t) (expressions_syntax es.items) span ss
unfolding spec_and
spec_and-Value ns t es span ss =
    ap (λ l. value_and (map identifier_syntax ns.items) l (row_expressions (hidden-the_row-Expr-0 es)) span ss) (expression_held t)
    ∙ ap (λ l. value_and (map identifier_syntax ns.items) (optional_expression_syntax t) l span ss) (expressions_kept es)

pub spec_and-Type : (n : KeptIdentifier) (ps : Vec Param Global) (alias : Bool) (t : Box Expr Global) (span : Span) (ss : Specs) → spec_and («Type» n ps alias t span) ss ≡ type_and (identifier_syntax n) (parameters_syntax ps.items) alias (expression_syntax t.value) span ss
unfolding spec_and
spec_and-Type n ps alias t span ss =
    ap (λ l. type_and (identifier_syntax n) l alias (expression_syntax t.value) span ss) (parameters_kept ps)

-- Of a block, a literal and a clause the code reads the fields by `out`, and builds one by `roll`.

pub block_syntax-out : (b : KeptBlock) → block_syntax b ≡ record { statements = statements_syntax (out-Block b).statements.items; braces = (out-Block b).span }
unfolding block_statements
block_syntax-out b =
    ap block_syntax (is-Block' b)
    ∙ (λ i. record { statements = statements_kept (out-Block b).statements i; braces = (out-Block b).span })

pub block_statements-out : (b : KeptBlock) → block_statements b ≡ statements_syntax (out-Block b).statements.items
block_statements-out b = λ i. (block_syntax-out b i).statements

pub block_syntax-roll : (b : _) → block_syntax (roll-Block b) ≡ record { statements = statements_syntax b.statements.items; braces = b.span }
unfolding block_statements
block_syntax-roll b =
    ap block_syntax (rolls-Block' b) ∙ (λ i. record { statements = statements_kept b.statements i; braces = b.span })

pub low_bound-out : (b : Bounds) → low_bound b ≡ optional_expression_syntax (out-Bounds b).low
unfolding low_bound
low_bound-out b = ap low_bound (is-Bounds' b) ∙ expression_held (out-Bounds b).low

pub high_bound-out : (b : Bounds) → high_bound b ≡ optional_expression_syntax (out-Bounds b).high
unfolding high_bound
high_bound-out b = ap high_bound (is-Bounds' b) ∙ expression_held (out-Bounds b).high

pub most_bound-out : (b : Bounds) → most_bound b ≡ optional_expression_syntax (out-Bounds b).max
unfolding most_bound
most_bound-out b = ap most_bound (is-Bounds' b) ∙ expression_held (out-Bounds b).max

pub low_bound_of : {b kept : Bounds} → b ≡ kept → optional_expression_syntax (out-Bounds b).low ≡ low_bound kept
low_bound_of {b} e = sym (low_bound-out b) ∙ ap low_bound e

pub high_bound_of : {b kept : Bounds} → b ≡ kept → optional_expression_syntax (out-Bounds b).high ≡ high_bound kept
high_bound_of {b} e = sym (high_bound-out b) ∙ ap high_bound e

pub most_bound_of : {b kept : Bounds} → b ≡ kept → optional_expression_syntax (out-Bounds b).max ≡ most_bound kept
most_bound_of {b} e = sym (most_bound-out b) ∙ ap most_bound e

pub low_bound-roll : (b : _) → low_bound (roll-Bounds b) ≡ optional_expression_syntax b.low
unfolding low_bound
low_bound-roll b = ap low_bound (rolls-Bounds' b) ∙ expression_held b.low

pub high_bound-roll : (b : _) → high_bound (roll-Bounds b) ≡ optional_expression_syntax b.high
unfolding high_bound
high_bound-roll b = ap high_bound (rolls-Bounds' b) ∙ expression_held b.high

pub most_bound-roll : (b : _) → most_bound (roll-Bounds b) ≡ optional_expression_syntax b.max
unfolding most_bound
most_bound-roll b = ap most_bound (rolls-Bounds' b) ∙ expression_held b.max

pub literal_syntax-out : (l : Literal) → literal_syntax l ≡ function_literal (signature_syntax (out-Literal l).signature) (block_syntax (out-Literal l).body).statements (block_syntax (out-Literal l).body).braces
unfolding literal_syntax
literal_syntax-out l =
    let b = (out-Literal l).body in
    ap literal_syntax (is-Literal' l)
    ∙ ap (λ s. function_literal s (block_statements b) (block_braces b)) (signature_kept (out-Literal l).signature)

pub literal_syntax-roll : (l : _) → literal_syntax (roll-Literal l) ≡ function_literal (signature_syntax l.signature) (block_syntax l.body).statements (block_syntax l.body).braces
unfolding literal_syntax
literal_syntax-roll l =
    ap literal_syntax (rolls-Literal' l)
    ∙ ap (λ s. function_literal s (block_statements l.body) (block_braces l.body)) (signature_kept l.signature)

pub case_clause_and-out : (c : CaseClause) (cs : CaseClauses) → case_clause_and c cs ≡ case_and (expressions_syntax (out-CaseClause c).expressions.items) (statements_syntax (out-CaseClause c).statements.items) (out-CaseClause c).span cs
unfolding case_clause_and
case_clause_and-out c cs =
    let o = out-CaseClause c in
    ap (λ d. case_clause_and d cs) (is-CaseClause' c)
    ∙ ap (λ l. case_and l (row_statements (hidden-the_row-Stmt-6 o.statements)) o.span cs) (expressions_kept o.expressions)
    ∙ ap (λ l. case_and (expressions_syntax o.expressions.items) l o.span cs) (statements_kept o.statements)

pub case_clause_and-roll : (c : _) (cs : CaseClauses) → case_clause_and (roll-CaseClause c) cs ≡ case_and (expressions_syntax c.expressions.items) (statements_syntax c.statements.items) c.span cs
unfolding case_clause_and
case_clause_and-roll c cs =
    ap (λ d. case_clause_and d cs) (rolls-CaseClause' c)
    ∙ ap (λ l. case_and l (row_statements (hidden-the_row-Stmt-6 c.statements)) c.span cs) (expressions_kept c.expressions)
    ∙ ap (λ l. case_and (expressions_syntax c.expressions.items) l c.span cs) (statements_kept c.statements)

pub communication_clause_and-out : (c : CommClause) (cs : CommunicationClauses) → communication_clause_and c cs ≡ communication_and (optional_statement_syntax (out-CommClause c).communication) (statements_syntax (out-CommClause c).statements.items) (out-CommClause c).span cs
unfolding communication_clause_and
communication_clause_and-out c cs =
    let o = out-CommClause c in
    ap (λ d. communication_clause_and d cs) (is-CommClause' c)
    ∙ ap (λ l. communication_and l (row_statements (hidden-the_row-Stmt-6 o.statements)) o.span cs) (statement_held o.communication)
    ∙ ap (λ l. communication_and (optional_statement_syntax o.communication) l o.span cs) (statements_kept o.statements)

pub communication_clause_and-roll : (c : _) (cs : CommunicationClauses) → communication_clause_and (roll-CommClause c) cs ≡ communication_and (optional_statement_syntax c.communication) (statements_syntax c.statements.items) c.span cs
unfolding communication_clause_and
communication_clause_and-roll c cs =
    ap (λ d. communication_clause_and d cs) (rolls-CommClause' c)
    ∙ ap (λ l. communication_and l (row_statements (hidden-the_row-Stmt-6 c.statements)) c.span cs) (statement_held c.communication)
    ∙ ap (λ l. communication_and (optional_statement_syntax c.communication) l c.span cs) (statements_kept c.statements)
