-- Where the names of a file stand: what a place asks of a name by its form alone, before anything is known of what the
-- name means. A name with another one after a dot, as `g.Go`, is one mention. A mention is the callee of a call, or an
-- argument of one, an item of a return list, or a name on a left side; or it stands elsewhere. A call is looked at
-- where it stands as a whole: as a statement, as the only value of `:=`, `=` or `var`, as an item of a return list, or
-- behind `defer`. What stands in brackets stands elsewhere; a callee in brackets has a role of its own.
-- The marks of a file are in the order in which its statements do what they say: values before the names that they are
-- bound to, arguments before their callee; what the condition of an `if` finds out is marked at the block's braces.
-- Between the two marks that open and close a body is all that stands in it, its signature too. In the second edition
-- fields are marked too, and places where something is given to others.
-- (The Go specification, "Expression statements", "Assignment statements", "Short variable declarations", "Variable
-- declarations", "Return statements", "Defer statements", "Calls", "Function literals".)
use Rattle.std.specs.Prelude.{ℕ, ◌+◌, Bool, true, false, not, ◌&&◌, ◌||◌, if◌then◌else◌, List, [], ◌∷◌, ◌++◌, Option, Some, None, is_some, option_map, codes, ◌-◌}
use Rattle.std.specs.List.{filter}
use Rattle.std.specs.Str.{bytes_eq}
use Rattle.tree.specs.declared.edition.Edition.{Edition}
use Rattle.tree.specs.declared.edition.Edition.TheVariants.{First, Second}
use Rattle.tree.specs.declared.operator.DeclKeyword.{DeclKeyword}
use Rattle.tree.specs.declared.operator.BinaryOperator.{BinaryOperator}
use Rattle.tree.specs.declared.operator.BinaryOperator.TheVariants.{Equal, NotEqual, LogicalAnd, LogicalOr}
use Rattle.tree.specs.declared.operator.UnaryOperator.{UnaryOperator}
use Rattle.tree.specs.declared.operator.UnaryOperator.TheVariants.{Address}
use Rattle.tree.specs.declared.span.Span.{Span}
use Rattle.tree.specs.Syntax.{Identifier, TypeName, Expression, expression_node, ExpressionForm, name_expression, basic_literal, function_literal, composite_literal, literal_value, key_value, parenthesized, selector_expression, index_expression, instance_expression, slice_expression, type_assertion, call_expression, star_expression, unary_expression, binary_expression, array_type, ellipsis_array_type, slice_type, map_type, channel_type, function_type, struct_type, interface_type, Expressions, no_expression, expression_and, OptionalExpression, missing_expression, present_expression, Signature, signature_of, Parameters, no_parameter, named_and, unnamed_and, name_alone_and, Fields, no_field, fields_and, embedded_and, element_and, method_and, Statement, statement_node, StatementForm, empty_statement, declaration_statement, labeled_statement, expression_statement, send_statement, increment_statement, decrement_statement, assignment, operator_assignment, define_statement, go_statement, defer_statement, return_statement, break_statement, continue_statement, goto_statement, fallthrough_statement, block_statement, if_statement, for_statement, range_assignment, range_definition, switch_statement, type_switch_statement, select_statement, Statements, no_statement, statement_and, OptionalStatement, missing_statement, present_statement, CaseClauses, no_case, case_and, CommunicationClauses, no_communication, communication_and, Declaration, declaration_of, Specs, no_spec, value_and, type_and, Block, Function, TopLevelDeclaration, function_declaration, general_declaration, ImportSpec, SourceFile}
use Rattle.meaning.specs.OuterBlocks.{specs_of}
use Rattle.meaning.specs.Scopes.{is_blank, first_of, parameters_named, named_in_types}

-- Names

-- `n`, or `n.m`, with the offset of n
pub record Named : Type 0 where
  pub name : List ℕ
  pub at : ℕ
  pub selected : Option (List ℕ)

abbrev pub bare : List ℕ → ℕ → Named
bare name at = record { name = name; at = at; selected = None }

abbrev pub select_from : Option Named → Identifier → Option Named
select_from None m = None
select_from (Some n) m = Some record { name = n.name; at = n.at; selected = Some m.text }

-- `n`
abbrev pub as_bare : Expression → Option Named
as_bare (expression_node (name_expression text) span) = Some (bare text span.start)
as_bare e = None

-- `n`, or `n.m`
abbrev pub as_named : Expression → Option Named
as_named (expression_node (name_expression text) span) = Some (bare text span.start)
as_named (expression_node (selector_expression e m) span) = select_from (as_bare e) m
as_named e = None

abbrev pub without_brackets : Expression → Expression
without_brackets (expression_node (parenthesized e) span) = without_brackets e
without_brackets e = e

-- `(n)`, or `(n.m)`, in brackets of any number
abbrev pub as_bracketed : Expression → Option Named
as_bracketed (expression_node (parenthesized e) span) = as_named (without_brackets e)
as_bracketed e = None

-- `*n`, or `*n.m`
abbrev pub as_pointer : Expression → Option Named
as_pointer (expression_node (star_expression e) span) = as_named e
as_pointer e = None

-- `T` of `&T{}`
abbrev pub as_new_literal : UnaryOperator → Expression → Option Named
as_new_literal Address (expression_node (composite_literal t no_expression) span) = as_named t
as_new_literal op e = None

abbrev pub embedded : TypeName → Named
embedded t = let n = first_of t.qualifier t.name in
    record { name = n.text; at = n.span.start; selected = option_map (λ q. t.name.text) t.qualifier }

-- Rows: left sides and values

pub data RowForm : Type 0 where
  -- names := values
  defines : List Identifier → RowForm
  -- left = values
  assigns : Expressions → RowForm
  -- keyword names type = values
  declares : DeclKeyword → List Identifier → OptionalExpression → RowForm

-- how a statement stands
pub data Standing : Type 0 where
  ordinary : Standing
  -- it is the first statement of a `for`
  first_of_for : Standing
  -- a clause of a `select` waits for it
  communication : Standing

pub record Row : Type 0 where
  pub form : RowForm
  pub values : Expressions
  -- the offset of the first token of its statement
  pub statement : ℕ
  pub standing : Standing

-- Calls

-- where an expression stands as a whole
pub data CallPlace : Type 0 where
  nowhere : CallPlace
  as_statement : CallPlace
  -- it is the only value of a row
  only_value : Row → CallPlace
  return_item : ℕ → CallPlace
  deferred : CallPlace
  under_go : CallPlace

-- no call of a `select`'s communication stands as a whole
abbrev pub place_in : Standing → CallPlace → CallPlace
place_in ordinary place = place
place_in first_of_for place = place
place_in communication place = nowhere

-- a call of `n` or `n.m`, and whether `...` stands after its last argument
pub record Call : Type 0 where
  pub callee : Named
  pub arguments : Expressions
  pub has_ellipsis : Bool
  pub place : CallPlace

abbrev pub call_of : CallPlace → Expression → Expressions → Bool → Option Call
call_of place e es ellipsis =
    option_map (λ n. record { callee = n; arguments = es; has_ellipsis = ellipsis; place = place }) (as_named e)

abbrev pub is_one : Expressions → Bool
is_one no_expression = false
is_one (expression_and e no_expression) = true
is_one (expression_and e (expression_and f es)) = false

abbrev pub is_none_left : Expressions → Bool
is_none_left no_expression = true
is_none_left (expression_and e es) = false

-- `g.Go` or `g.TryGo`, by its form
abbrev pub starts_by : Option (List ℕ) → Bool
starts_by None = false
starts_by (Some m) = bytes_eq m (codes "Go") || bytes_eq m (codes "TryGo")

abbrev pub is_start : Named → Bool
is_start n = starts_by n.selected

-- how a function literal is used
pub data LiteralUse : Type 0 where
  other_use : LiteralUse
  -- defer func(..) { .. }(..)
  deferred_call : LiteralUse
  -- go func(..) { .. }(..)
  call_under_go : LiteralUse
  -- the argument of `g.Go` or `g.TryGo`
  started_by : Named → LiteralUse

abbrev pub argument_use : Option Call → LiteralUse
argument_use None = other_use
argument_use (Some c) =
    if is_start c.callee && (is_one c.arguments && not c.has_ellipsis) then started_by c.callee else other_use

abbrev pub callee_use : CallPlace → LiteralUse
callee_use deferred = deferred_call
callee_use under_go = call_under_go
callee_use place = other_use

-- Marks

-- what a place asks of a name
pub data Role : Type 0 where
  elsewhere : Role
  -- n as key of an element of a composite literal
  as_key : Role
  -- n where no row declares it, or where it may get another value, and is no whole left side of a row: `(n) = ..`,
  -- `n += ..`, `n++`, the names of a `range`, a type switch and a type
  exposed : Role
  -- n of `&n` that is no argument
  pointed_to : Role
  -- n of `n == nil` or `n != nil`, mentioned once more at the brace at which it is known to be nil; with the offset of
  -- `nil`
  found_nil : ℕ → Role
  -- the same where it is known not to be nil, behind a row; with the offset of `nil`, and the row
  found_error : ℕ → Row → Role
  -- n in `n(..)`, n.m in `n.m(..)`
  called : Call → Role
  -- the same in brackets
  called_in_brackets : Role
  -- n or n.m as argument of that number, from 0, and whether `&` stands before it
  argument : ℕ → Bool → Call → Role
  -- n as item of that number of a return list
  returned : ℕ → Role
  -- n as left side of that number
  left : ℕ → Row → Role
  -- the type of a row's names
  names_type : Row → Role
  -- T of `&T{}`, the only value of a row
  new_literal : Row → Role
  -- T of a parameter's type `*T`
  parameter_pointer : Role

pub record Mention : Type 0 where
  pub named : Named
  pub role : Role
  -- the offset of its statement, spec, header or clause
  pub site : ℕ
  -- the number of the local that the name declares there, unless it means one that is declared already
  pub declares : Option ℕ

-- a function or method with a block, or a function literal, which has no name
pub record BodyPlace : Type 0 where
  -- the offset of `func`
  pub at : ℕ
  pub name : Option Identifier
  pub receiver : Option Parameters
  pub signature : Signature
  pub statements : Statements
  pub braces : Span
  pub literal : LiteralUse

-- Fields

-- a left side `e.f`, in brackets or not
pub record FieldLeft : Type 0 where
  pub field : Identifier
  -- n, where it is `n.f`, or `(n).f`, `(*n).f` or `(&n).f`
  pub object : Option Named
  -- round it, or round e
  pub has_brackets : Bool

-- it is the left side of that number of a row
pub record Assigned : Type 0 where
  pub left_side : ℕ
  pub row : Row

-- who gets what stands at a place
pub data Taker : Type 0 where
  no_taker : Taker
  -- the function that is called, as its name says, if it has one
  called_function : Option Named → Taker
  -- `append`, of which the value goes to someone
  appending : Named → Taker
  -- the method of that name, under `go` or `defer`
  method : List ℕ → Taker
  -- whoever reads a channel, or a place that is no name, or a goroutine
  some_taker : Taker

pub data FieldMark : Type 0 where
  -- `e.f(..)`
  calls_field : List ℕ → FieldMark
  -- `e.f` gets a value: by a row, or otherwise
  writes_field : FieldLeft → Option Assigned → FieldMark
  -- the expression is given to the taker
  hands_over : Taker → Expression → FieldMark
  -- so is the literal at that offset, with what it mentions
  hands_literal : Taker → ℕ → FieldMark
  -- a clause makes the local of that number anew
  renews : ℕ → FieldMark
  -- an import of the file brings names that aren't written
  imports_all : FieldMark

-- when a literal runs that a statement calls: at the return, or in a goroutine of its own
pub data Moment : Type 0 where
  at_return : Moment
  in_goroutine : Moment

pub data Mark : Type 0 where
  mentions : Mention → Mark
  -- with its site
  of_fields : ℕ → FieldMark → Mark
  -- a literal is called under `defer` or `go`: the offsets of the statement and of the literal
  runs_literal : Moment → ℕ → ℕ → Mark
  -- a return, its offset and its items
  returns : ℕ → Expressions → Mark
  opens : BodyPlace → Mark
  closes : Mark

-- where an expression stands: as a whole, how it is used and who gets it if it is a literal, and the offset of its site
pub record Spot : Type 0 where
  pub place : CallPlace
  pub literal : LiteralUse
  pub taker : Taker
  pub site : ℕ

abbrev pub part_of : ℕ → Spot
part_of site = record { place = nowhere; literal = other_use; taker = no_taker; site = site }

abbrev pub whole : CallPlace → ℕ → Spot
whole place site = record { place = place; literal = other_use; taker = no_taker; site = site }

abbrev pub mention : ℕ → Role → Named → Mark
mention site role n = mentions record { named = n; role = role; site = site; declares = None }

-- a name that is declared, or perhaps only assigned to by `:=`
abbrev pub declaring : ℕ → Role → Identifier → Option ℕ → Mark
declaring site role n number =
    mentions record { named = bare n.text n.span.start; role = role; site = site; declares = number }

abbrev pub number_of : Identifier → Option ℕ
number_of n = if is_blank n.text then None else Some n.span.start

abbrev pub name_role : CallPlace → Role
name_role (return_item k) = returned k
name_role place = elsewhere

-- a mention of what is named, or else these marks
abbrev pub named_or : Option Named → ℕ → Role → List Mark → List Mark
named_or None site role marks = marks
named_or (Some n) site role marks = mention site role n ∷ []

-- `n`, in brackets or not
abbrev pub bare_within : Expression → Option Named
bare_within e = as_bare (without_brackets e)

abbrev pub addressed_within : UnaryOperator → Expression → Option Named
addressed_within Address e = bare_within e
addressed_within op e = None

abbrev pub exposed_or : ℕ → Expression → List Mark → List Mark
exposed_or site e marks = named_or (bare_within e) site exposed marks

-- Fields and what is given

abbrev pub in_more_brackets : FieldLeft → FieldLeft
in_more_brackets l = record { field = l.field; object = l.object; has_brackets = true }

-- n, in brackets, and behind `*` and `&`
abbrev pub object_of : Expression → Option Named
object_of (expression_node (parenthesized e) span) = object_of e
object_of (expression_node (star_expression e) span) = object_of e
object_of (expression_node (unary_expression Address e) span) = object_of e
object_of e = as_bare e

abbrev pub is_in_brackets : Expression → Bool
is_in_brackets (expression_node (parenthesized e) span) = true
is_in_brackets e = false

abbrev pub field_left : Expression → Option FieldLeft
field_left (expression_node (selector_expression e f) span) =
    Some record { field = f; object = object_of e; has_brackets = is_in_brackets e }
field_left (expression_node (parenthesized e) span) = option_map in_more_brackets (field_left e)
field_left e = None

abbrev pub written : ℕ → Option Assigned → Option FieldLeft → List Mark
written site by None = []
written site by (Some l) = of_fields site (writes_field l by) ∷ []

abbrev pub field_written : ℕ → Option Assigned → Expression → List Mark
field_written site by e = written site by (field_left e)

abbrev pub field_called : ℕ → Expression → List Mark
field_called site (expression_node (selector_expression e f) span) = of_fields site (calls_field f.text) ∷ []
field_called site e = []

-- what stands there is given to the taker
abbrev pub given_to : ℕ → Taker → Expression → List Mark
given_to site no_taker e = []
given_to site taker e = of_fields site (hands_over taker e) ∷ []

abbrev pub literal_given_to : ℕ → Taker → ℕ → List Mark
literal_given_to site no_taker at = []
literal_given_to site taker at = of_fields site (hands_literal taker at) ∷ []

abbrev pub called_name : Option Call → Option Named
called_name c = option_map (λ k. k.callee) c

abbrev pub place_but_for : Option Named → CallPlace → CallPlace
place_but_for (Some n) place = nowhere
place_but_for None place = place

-- what a name in brackets calls gets nothing for certain
abbrev pub arguments_place : CallPlace → Expression → CallPlace
arguments_place place e = place_but_for (as_bracketed e) place

-- the arguments of a call that stands as a whole go to what is called
abbrev pub argument_taker : CallPlace → Option Call → Taker
argument_taker nowhere c = no_taker
argument_taker place c = called_function (called_name c)

-- of literals, those of a call that is made there and then
abbrev pub literal_taker : CallPlace → Option Call → Taker
literal_taker deferred c = no_taker
literal_taker under_go c = no_taker
literal_taker place c = argument_taker place c

-- a literal that is called under `go` goes to a goroutine
abbrev pub callee_taker : CallPlace → Taker
callee_taker under_go = some_taker
callee_taker place = no_taker

-- x of `go x.m(..)` and `defer x.m(..)`
abbrev pub receiver_given : CallPlace → ℕ → Expression → List Mark
receiver_given deferred site (expression_node (selector_expression e m) span) = given_to site (method m.text) e
receiver_given under_go site (expression_node (selector_expression e m) span) = given_to site (method m.text) e
receiver_given place site e = []

abbrev pub all_given_to : ℕ → Taker → Expressions → List Mark
all_given_to site taker no_expression = []
all_given_to site taker (expression_and e es) = given_to site taker e ++ all_given_to site taker es

abbrev pub appended : ℕ → Option Named → Expressions → List Mark
appended site None es = []
appended site (Some n) es = if bytes_eq n.name (codes "append") then all_given_to site (appending n) es else []

-- The right side of an assignment to what is no name; of several ones, the arguments of `append` too. (Those of one
-- that is the only value are arguments of a call that stands as a whole.)
abbrev pub right_given : ℕ → Bool → Expression → List Mark
right_given site is_only (expression_node (call_expression f es ellipsis) span) =
    if is_only then [] else appended site (as_bare f) es
right_given site is_only e = given_to site some_taker e

abbrev pub rights_given : ℕ → Bool → Expressions → Expressions → List Mark
rights_given site is_only (expression_and l ls) (expression_and r rs) =
    (if is_some (bare_within l) then [] else right_given site is_only r) ++ rights_given site is_only ls rs
rights_given site is_only ls rs = []

-- what a `select` waits to send, or declares, is so where the clause is entered
abbrev pub sent : Standing → ℕ → Expression → List Mark
sent communication at v = []
sent standing at v = given_to at some_taker v

abbrev pub renewed : ℕ → List Identifier → List Mark
renewed site [] = []
renewed site (n ∷ ns) = of_fields site (renews n.span.start) ∷ renewed site ns

abbrev pub communication_given : ℕ → OptionalStatement → List Mark
communication_given clause (present_statement (statement_node (send_statement c v) span)) = given_to clause some_taker v
communication_given clause (present_statement (statement_node (define_statement ns rs) span)) = renewed clause ns
communication_given clause c = []

abbrev pub guard_renewed : Option Identifier → Span → List Mark
guard_renewed None clause = []
guard_renewed (Some n) clause = of_fields clause.start (renews clause.start) ∷ []

-- Conditions that find something nil

-- a name that is compared with `nil`, and the offset of `nil`, by its form
pub record NilTest : Type 0 where
  pub named : Named
  pub nil : ℕ

abbrev pub nil_test : Option Named → Option Named → List NilTest
nil_test None m = []
nil_test (Some n) None = []
nil_test (Some n) (Some m) = if bytes_eq m.name (codes "nil") then record { named = n; nil = m.at } ∷ [] else []

-- where this comes out so, both operands do
abbrev pub has_both : Bool → BinaryOperator → Bool
has_both true LogicalAnd = true
has_both false LogicalOr = true
has_both outcome op = false

-- where this comes out so, the operands are equal
abbrev pub compares : Bool → BinaryOperator → Bool
compares true Equal = true
compares false NotEqual = true
compares outcome op = false

-- The names that are nil wherever a condition has come out so: those of `==` as true and of `!=` as false, of the parts
-- of `&&` as true, and of the parts of `||` as false.
abbrev pub nil_where : Bool → Expression → List NilTest
nil_where outcome (expression_node (binary_expression op l r) span) =
    if has_both outcome op then nil_where outcome l ++ nil_where outcome r
    else if compares outcome op then nil_test (as_bare l) (as_bare r) ++ nil_test (as_bare r) (as_bare l)
    else []
nil_where outcome e = []

abbrev pub nil_marks : ℕ → List NilTest → List Mark
nil_marks site [] = []
nil_marks site (t ∷ ts) = mention site (found_nil t.nil) t.named ∷ nil_marks site ts

-- The name that is not nil where a condition of one comparison has come out so: that of `!=` as true, and that of `==`
-- as false.
abbrev pub error_where : Bool → Expression → List NilTest
error_where outcome (expression_node (binary_expression op l r) span) =
    if compares (not outcome) op then nil_test (as_bare l) (as_bare r) ++ nil_test (as_bare r) (as_bare l) else []
error_where outcome e = []

abbrev pub error_marks : ℕ → Row → List NilTest → List Mark
error_marks site row [] = []
error_marks site row (t ∷ ts) = mention site (found_error t.nil row) t.named ∷ error_marks site row ts

abbrev pub callee_or : Option Call → ℕ → Expression → List Mark → List Mark
callee_or None site e marks = named_or (as_bracketed e) site called_in_brackets marks
callee_or (Some c) site e marks = mention site (called c) c.callee ∷ []

abbrev pub addressed : UnaryOperator → Expression → Option Named
addressed Address e = as_bare e
addressed op e = None

-- `n`, `n.m`, or `&n`, as argument k of the call
abbrev pub argument_or : Call → ℕ → ℕ → Expression → List Mark → List Mark
argument_or c site k (expression_node (unary_expression op e) span) marks =
    named_or (addressed op e) site (argument k true c) marks
argument_or c site k e marks = named_or (as_named e) site (argument k false c) marks

-- the argument k, and whether it is the last one; under `...` it is at no position
abbrev pub argument_at : Option Call → ℕ → ℕ → Bool → Expression → List Mark → List Mark
argument_at None site k is_last e marks = marks
argument_at (Some c) site k is_last e marks =
    if is_last && c.has_ellipsis then marks else argument_or c site k e marks

abbrev pub new_literal_or : CallPlace → ℕ → Option Named → List Mark → List Mark
new_literal_or (only_value row) site n marks = named_or n site (new_literal row) marks
new_literal_or place site n marks = marks

abbrev pub deferral : LiteralUse → ℕ → ℕ → List Mark
deferral deferred_call site at = runs_literal at_return site at ∷ []
deferral call_under_go site at = runs_literal in_goroutine site at ∷ []
deferral used site at = []

abbrev pub literal_body : LiteralUse → ℕ → Signature → Statements → Span → BodyPlace
literal_body used at signature ss braces = record {
  at = at;
  name = None;
  receiver = None;
  signature = signature;
  statements = ss;
  braces = braces;
  literal = used;
}

abbrev pub in_body : BodyPlace → List Mark → List Mark
in_body b marks = opens b ∷ (marks ++ closes ∷ [])

-- the type of a parameter: `*T` as a whole, unless `...` stands before it; that of a result never
abbrev pub parameter_type_or : Bool → Expression → ℕ → List Mark → List Mark
parameter_type_or is_plain t site marks =
    if is_plain then named_or (as_pointer t) site parameter_pointer marks else marks

abbrev pub value_spot : Row → ℕ → Spot
value_spot row site =
    whole (if is_one row.values then place_in row.standing (only_value row) else nowhere) site

-- the names of a row's left side, from the one of that number on
abbrev pub left_names : Row → ℕ → ℕ → List Identifier → List Mark
left_names row site k [] = []
left_names row site k (n ∷ ns) =
    declaring site (left k row) n (number_of n) ∷ left_names row site (k + 1) ns

-- names that are declared where no row is
abbrev pub declared_elsewhere : ℕ → List Identifier → List Mark
declared_elsewhere site [] = []
declared_elsewhere site (n ∷ ns) = declaring site exposed n (number_of n) ∷ declared_elsewhere site ns

-- the name of a type switch, which each clause declares anew, at the clause's keyword
abbrev pub guard_in_clause : ℕ → Option Identifier → Span → List Mark
guard_in_clause site None clause = []
guard_in_clause site (Some n) clause =
    if is_blank n.text then [] else declaring site exposed n (Some clause.start) ∷ []

abbrev pub row_of : Standing → ℕ → RowForm → Expressions → Row
row_of standing at form values = record { form = form; values = values; statement = at; standing = standing }

-- An `if` right behind a row

-- the row of the last spec, or else this one
abbrev pub last_row : DeclKeyword → ℕ → Option Row → Specs → Option Row
last_row keyword at before no_spec = before
last_row keyword at before (value_and ns t es span specs) =
    last_row keyword at (Some (row_of ordinary at (declares keyword ns t) es)) specs
last_row keyword at before (type_and n ps is_alias t span specs) = last_row keyword at None specs

-- the row that a statement without label is or ends with
abbrev pub row_in : Statement → Option Row
row_in (statement_node (assignment ls rs) span) = Some (row_of ordinary span.start (assigns ls) rs)
row_in (statement_node (define_statement ns rs) span) = Some (row_of ordinary span.start (defines ns) rs)
row_in (statement_node (declaration_statement (declaration_of keyword specs is_grouped bytes)) span) =
    last_row keyword bytes.start None specs
row_in s = None

abbrev pub first_row : OptionalStatement → Option Row
first_row missing_statement = None
first_row (present_statement s) = row_in s

abbrev pub guard_marks : Option Row → Expression → Span → List Mark
guard_marks None c braces = []
guard_marks (Some row) c braces =
    error_marks braces.start row (error_where true c) ++ error_marks (braces.end - 1) row (error_where false c)

-- the statement after the row is an `if` without a first statement of its own
abbrev pub behind_row : Option Row → Statements → List Mark
behind_row row (statement_and (statement_node (if_statement missing_statement semicolon c ss braces other) span) rest) =
    guard_marks row c braces
behind_row row ss = []

abbrev pub callee_spot : Spot → Spot
callee_spot spot = record {
  place = nowhere;
  literal = callee_use spot.place;
  taker = callee_taker spot.place;
  site = spot.site;
}

abbrev pub argument_spot : CallPlace → Option Call → ℕ → Spot
argument_spot place c site =
    record { place = nowhere; literal = argument_use c; taker = literal_taker place c; site = site }

unfoldable mutual
  pub expression_marks : Spot → Expression → List Mark
  expression_marks spot (expression_node form span) = form_marks spot span form

  -- the marks of an expression that takes the bytes of the span
  pub form_marks : Spot → Span → ExpressionForm → List Mark
  form_marks spot span (name_expression text) = mention spot.site (name_role spot.place) (bare text span.start) ∷ []
  form_marks spot span (basic_literal kind) = []
  form_marks spot span (function_literal signature ss braces) =
      in_body (literal_body spot.literal span.start signature ss braces)
      (signature_marks span.start signature ++ statements_marks ss)
      ++ (deferral spot.literal spot.site span.start ++ literal_given_to spot.site spot.taker span.start)
  form_marks spot span (composite_literal t es) =
      expression_marks (part_of spot.site) t ++ expressions_marks (part_of spot.site) es
  form_marks spot span (literal_value es) = expressions_marks (part_of spot.site) es
  form_marks spot span (key_value k v) =
      named_or (as_bare k) spot.site as_key (expression_marks (part_of spot.site) k)
      ++ expression_marks (part_of spot.site) v
  form_marks spot span (parenthesized e) = expression_marks (part_of spot.site) e
  form_marks spot span (selector_expression e n) =
      named_or (select_from (as_bare e) n) spot.site elsewhere (expression_marks (part_of spot.site) e)
  form_marks spot span (index_expression e i) =
      expression_marks (part_of spot.site) e ++ expression_marks (part_of spot.site) i
  form_marks spot span (instance_expression e es) =
      expression_marks (part_of spot.site) e ++ expressions_marks (part_of spot.site) es
  form_marks spot span (slice_expression e low high most) =
      expression_marks (part_of spot.site) e
      ++ (optional_marks spot.site low ++ (optional_marks spot.site high ++ optional_marks spot.site most))
  form_marks spot span (type_assertion e t) =
      expression_marks (part_of spot.site) e ++ expression_marks (part_of spot.site) t
  form_marks spot span (call_expression e es ellipsis) =
      receiver_given spot.place spot.site e
      ++ (arguments_marks (arguments_place spot.place e) (call_of spot.place e es ellipsis) spot.site 0 es
      ++ (callee_or (call_of spot.place e es ellipsis) spot.site e (expression_marks (callee_spot spot) e)
      ++ field_called spot.site e))
  form_marks spot span (star_expression e) = expression_marks (part_of spot.site) e
  form_marks spot span (unary_expression op e) =
      new_literal_or spot.place spot.site (as_new_literal op e)
      (named_or (addressed_within op e) spot.site pointed_to (expression_marks (part_of spot.site) e))
  form_marks spot span (binary_expression op l r) =
      expression_marks (part_of spot.site) l ++ expression_marks (part_of spot.site) r
  form_marks spot span (array_type n t) =
      expression_marks (part_of spot.site) n ++ expression_marks (part_of spot.site) t
  form_marks spot span (ellipsis_array_type t) = expression_marks (part_of spot.site) t
  form_marks spot span (slice_type t) = expression_marks (part_of spot.site) t
  form_marks spot span (map_type k t) =
      expression_marks (part_of spot.site) k ++ expression_marks (part_of spot.site) t
  form_marks spot span (channel_type direction t) = expression_marks (part_of spot.site) t
  form_marks spot span (function_type signature) = signature_marks spot.site signature
  form_marks spot span (struct_type fs) = fields_marks spot.site fs
  form_marks spot span (interface_type fs) = fields_marks spot.site fs

  -- expressions that stand alike
  pub expressions_marks : Spot → Expressions → List Mark
  expressions_marks spot no_expression = []
  expressions_marks spot (expression_and e es) = expression_marks spot e ++ expressions_marks spot es

  pub optional_marks : ℕ → OptionalExpression → List Mark
  optional_marks site missing_expression = []
  optional_marks site (present_expression e) = expression_marks (part_of site) e

  -- the arguments of a call that stands there, from the one of that number on
  pub arguments_marks : CallPlace → Option Call → ℕ → ℕ → Expressions → List Mark
  arguments_marks place c site k no_expression = []
  arguments_marks place c site k (expression_and e es) =
      argument_at c site k (is_none_left es) e (expression_marks (argument_spot place c site) e)
      ++ (given_to site (argument_taker place c) e ++ arguments_marks place c site (k + 1) es)

  -- the items of a return list, from the one of that number on
  pub items_marks : ℕ → ℕ → Expressions → List Mark
  items_marks site k no_expression = []
  items_marks site k (expression_and e es) =
      expression_marks (whole (return_item k) site) e ++ items_marks site (k + 1) es

  -- the left sides of a row, from the one of that number on
  pub lefts_marks : Row → ℕ → ℕ → Expressions → List Mark
  lefts_marks row site k no_expression = []
  lefts_marks row site k (expression_and e es) =
      named_or (as_bare e) site (left k row) (exposed_or site e (expression_marks (part_of site) e))
      ++ (field_written site (Some record { left_side = k; row = row }) e ++ lefts_marks row site (k + 1) es)

  -- the left sides of a `range`
  pub ranged_marks : ℕ → Expressions → List Mark
  ranged_marks site no_expression = []
  ranged_marks site (expression_and e es) =
      exposed_or site e (expression_marks (part_of site) e) ++ (field_written site None e ++ ranged_marks site es)

  -- the type of a row's names
  pub names_type_marks : Row → ℕ → OptionalExpression → List Mark
  names_type_marks row site missing_expression = []
  names_type_marks row site (present_expression t) =
      named_or (as_named t) site (names_type row) (expression_marks (part_of site) t)

  -- the types of parameters and results
  pub signature_marks : ℕ → Signature → List Mark
  signature_marks site (signature_of ps rs brackets) = parameters_marks true site ps ++ parameters_marks false site rs

  pub parameters_marks : Bool → ℕ → Parameters → List Mark
  parameters_marks are_parameters site no_parameter = []
  parameters_marks are_parameters site (named_and n ellipsis t ps) =
      parameter_type_or (are_parameters && not ellipsis) t site (expression_marks (part_of site) t)
      ++ parameters_marks are_parameters site ps
  parameters_marks are_parameters site (unnamed_and ellipsis t ps) =
      parameter_type_or (are_parameters && not ellipsis) t site (expression_marks (part_of site) t)
      ++ parameters_marks are_parameters site ps
  parameters_marks are_parameters site (name_alone_and n ps) = parameters_marks are_parameters site ps

  pub fields_marks : ℕ → Fields → List Mark
  fields_marks site no_field = []
  fields_marks site (fields_and ns t tag span fs) = expression_marks (part_of site) t ++ fields_marks site fs
  fields_marks site (embedded_and star n tag span fs) = mention site elsewhere (embedded n) ∷ fields_marks site fs
  fields_marks site (element_and star t tag span fs) = expression_marks (part_of site) t ++ fields_marks site fs
  fields_marks site (method_and n signature span fs) = signature_marks site signature ++ fields_marks site fs

  pub statement_marks : Standing → Statement → List Mark
  statement_marks standing (statement_node form span) = statement_form_marks standing span.start form

  -- the marks of a statement that begins at the offset
  pub statement_form_marks : Standing → ℕ → StatementForm → List Mark
  statement_form_marks standing at empty_statement = []
  statement_form_marks standing at (declaration_statement d) = declaration_marks d
  statement_form_marks standing at (labeled_statement n s) = statement_marks standing s
  statement_form_marks standing at (expression_statement e) =
      expression_marks (whole (place_in standing as_statement) at) e
  statement_form_marks standing at (send_statement c v) =
      expression_marks (part_of at) c ++ (expression_marks (part_of at) v ++ sent standing at v)
  statement_form_marks standing at (increment_statement e) =
      exposed_or at e (expression_marks (part_of at) e) ++ field_written at None e
  statement_form_marks standing at (decrement_statement e) =
      exposed_or at e (expression_marks (part_of at) e) ++ field_written at None e
  statement_form_marks standing at (assignment ls rs) =
      expressions_marks (value_spot (row_of standing at (assigns ls) rs) at) rs
      ++ (rights_given at (is_one rs) ls rs ++ lefts_marks (row_of standing at (assigns ls) rs) at 0 ls)
  statement_form_marks standing at (operator_assignment op l r) =
      exposed_or at l (expression_marks (part_of at) l)
      ++ (expression_marks (part_of at) r ++ field_written at None l)
  statement_form_marks standing at (define_statement ns rs) =
      expressions_marks (value_spot (row_of standing at (defines ns) rs) at) rs
      ++ left_names (row_of standing at (defines ns) rs) at 0 ns
  statement_form_marks standing at (go_statement e) = expression_marks (whole under_go at) e
  statement_form_marks standing at (defer_statement e) = expression_marks (whole deferred at) e
  statement_form_marks standing at (return_statement es) = items_marks at 0 es ++ returns at es ∷ []
  statement_form_marks standing at (break_statement n) = []
  statement_form_marks standing at (continue_statement n) = []
  statement_form_marks standing at (goto_statement n) = []
  statement_form_marks standing at fallthrough_statement = []
  statement_form_marks standing at (block_statement ss braces) = statements_marks ss
  statement_form_marks standing at (if_statement init has_semicolon c ss braces otherwise) =
      optional_statement_marks ordinary init
      ++ (expression_marks (part_of at) c
      ++ (guard_marks (first_row init) c braces
      -- what is nil in the block stands at its first brace, what is nil past it at its last one
      ++ ((nil_marks braces.start (nil_where true c)
      ++ (statements_marks ss ++ nil_marks (braces.end - 1) (nil_where false c)))
      ++ optional_statement_marks ordinary otherwise)))
  statement_form_marks standing at (for_statement init c post has_semicolons ss braces) =
      optional_statement_marks first_of_for init
      ++ (optional_marks at c ++ (optional_statement_marks ordinary post ++ statements_marks ss))
  statement_form_marks standing at (range_assignment ls e ss braces) =
      ranged_marks at ls ++ (expression_marks (part_of at) e ++ statements_marks ss)
  statement_form_marks standing at (range_definition ns e ss braces) =
      expression_marks (part_of at) e ++ (declared_elsewhere at ns ++ statements_marks ss)
  statement_form_marks standing at (switch_statement init has_semicolon tag cs) =
      optional_statement_marks ordinary init ++ (optional_marks at tag ++ cases_marks at None cs)
  statement_form_marks standing at (type_switch_statement init has_semicolon n e cs) =
      optional_statement_marks ordinary init ++ (expression_marks (part_of at) e ++ cases_marks at n cs)
  statement_form_marks standing at (select_statement cs) = communications_marks cs

  pub statements_marks : Statements → List Mark
  statements_marks no_statement = []
  statements_marks (statement_and s ss) =
      statement_marks ordinary s ++ (behind_row (row_in s) ss ++ statements_marks ss)

  pub optional_statement_marks : Standing → OptionalStatement → List Mark
  optional_statement_marks standing missing_statement = []
  optional_statement_marks standing (present_statement s) = statement_marks standing s

  -- the clauses of a switch that begins at the offset, with the name of a type switch
  pub cases_marks : ℕ → Option Identifier → CaseClauses → List Mark
  cases_marks at guard no_case = []
  cases_marks at guard (case_and es ss span cs) =
      guard_in_clause at guard span
      ++ (guard_renewed guard span
      ++ (expressions_marks (part_of span.start) es ++ (statements_marks ss ++ cases_marks at guard cs)))

  pub communications_marks : CommunicationClauses → List Mark
  communications_marks no_communication = []
  communications_marks (communication_and c ss span cs) =
      optional_statement_marks communication c
      ++ (communication_given span.start c ++ (statements_marks ss ++ communications_marks cs))

  pub declaration_marks : Declaration → List Mark
  declaration_marks (declaration_of keyword specs is_grouped span) = specs_marks keyword span.start specs

  -- the specs of a declaration that begins at the offset
  pub specs_marks : DeclKeyword → ℕ → Specs → List Mark
  specs_marks keyword at no_spec = []
  specs_marks keyword at (value_and ns t es span specs) =
      names_type_marks (row_of ordinary at (declares keyword ns t) es) span.start t
      ++ (expressions_marks (value_spot (row_of ordinary at (declares keyword ns t) es) span.start) es
      ++ (left_names (row_of ordinary at (declares keyword ns t) es) span.start 0 ns
      ++ specs_marks keyword at specs))
  specs_marks keyword at (type_and n ps is_alias t span specs) =
      declaring span.start exposed n (number_of n)
      ∷ (declared_elsewhere span.start (parameters_named ps)
      ++ (parameters_marks false span.start ps
      ++ (expression_marks (part_of span.start) t ++ specs_marks keyword at specs)))

-- type parameters, and then their constraints
abbrev pub type_parameters_marks : ℕ → Parameters → List Mark
type_parameters_marks site ps = declared_elsewhere site (parameters_named ps) ++ parameters_marks false site ps

-- A type parameter that a receiver's type declares is mentioned twice, and only where it is declared it means anything.
abbrev pub receiver_marks : ℕ → Option Parameters → List Mark
receiver_marks site None = []
receiver_marks site (Some ps) = declared_elsewhere site (named_in_types ps) ++ parameters_marks true site ps

abbrev pub function_body : Function → Block → BodyPlace
function_body f b = record {
  at = f.span.start;
  name = Some f.name;
  receiver = f.receiver;
  signature = f.signature;
  statements = b.statements;
  braces = b.braces;
  literal = other_use;
}

abbrev pub function_types_marks : Function → List Mark
function_types_marks f =
    receiver_marks f.span.start f.receiver
    ++ (type_parameters_marks f.span.start f.type_parameters ++ signature_marks f.span.start f.signature)

-- the types of a function without a block stand in no body
abbrev pub function_marks : Function → Option Block → List Mark
function_marks f None = function_types_marks f
function_marks f (Some b) = in_body (function_body f b) (function_types_marks f ++ statements_marks b.statements)

-- a declaration outside all functions: no statement, and no local of a body
abbrev pub outer_specs_marks : Specs → List Mark
outer_specs_marks no_spec = []
outer_specs_marks (value_and ns t es span specs) =
    optional_marks span.start t ++ (expressions_marks (part_of span.start) es ++ outer_specs_marks specs)
outer_specs_marks (type_and n ps is_alias t span specs) =
    type_parameters_marks span.start ps
    ++ (expression_marks (part_of span.start) t ++ outer_specs_marks specs)

abbrev pub top_level_marks : TopLevelDeclaration → List Mark
top_level_marks (function_declaration f) = function_marks f f.body
top_level_marks (general_declaration (declaration_of keyword specs is_grouped span)) = outer_specs_marks specs

abbrev pub top_levels_marks : List TopLevelDeclaration → List Mark
top_levels_marks [] = []
top_levels_marks (d ∷ ds) = top_level_marks d ++ top_levels_marks ds

-- what a condition finds out
abbrev pub is_found : Mark → Bool
is_found (mentions m) = is_found_role m.role
  where
    is_found_role : Role → Bool
    is_found_role (found_nil nil) = true
    is_found_role (found_error nil row) = true
    is_found_role role = false
is_found mark = false

abbrev pub is_of_fields : Mark → Bool
is_of_fields (of_fields site m) = true
is_of_fields mark = false

-- In the first edition conditions find out nothing, and nothing is asked of fields; in the second fields are told of
-- where some keep what they hold.
abbrev pub marks_by : Edition → Bool → List Mark → List Mark
marks_by First some_keep ms = filter (λ m. not (is_found m || is_of_fields m)) ms
marks_by Second false ms = filter (λ m. not (is_of_fields m)) ms
marks_by Second true ms = ms

abbrev pub is_dot : Option Identifier → Bool
is_dot None = false
is_dot (Some n) = bytes_eq n.text (codes ".")

abbrev pub import_marks : List ImportSpec → List Mark
import_marks [] = []
import_marks (s ∷ ss) = (if is_dot s.name then of_fields s.span.start imports_all ∷ [] else []) ++ import_marks ss

abbrev pub file_marks : SourceFile → List Mark
file_marks file = import_marks (specs_of file.imports) ++ top_levels_marks file.declarations
