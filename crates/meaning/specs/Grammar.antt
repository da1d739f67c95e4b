-- The tree of a text: which tokens spell which tree. There is one case for each rule of the grammar. Semicolons that
-- may be missing, empty statements and commas after the last item leave nothing in the tree; brackets, groups and a
-- header's lone semicolon are kept. WellFormed has the conditions that the cases name.
-- The first edition leaves out type parameters, instances, `goto`, `fallthrough` and imports with a dot: the cases of
-- these ask for the second. (The Go specification, from "Source file organization" back to "Types".)
use Rattle.std.specs.Prelude.{◌≡◌, ℕ, ◌-◌, ◌+◌, Bool, true, false, List, [], ◌∷◌, Option, Some, None, slice_range}
use Rattle.lexer.specs.declared.token.TokenKind.TheVariants.{BreakKeyword, CaseKeyword, ChanKeyword, ContinueKeyword, DefaultKeyword, DeferKeyword, ElseKeyword, FallthroughKeyword, ForKeyword, FuncKeyword, GoKeyword, GotoKeyword, IfKeyword, ImportKeyword, InterfaceKeyword, MapKeyword, PackageKeyword, RangeKeyword, ReturnKeyword, SelectKeyword, StructKeyword, SwitchKeyword, TypeKeyword, Star, Arrow, Increment, Decrement, Assign, Define, Ellipsis, LeftParenthesis, RightParenthesis, LeftBracket, RightBracket, LeftBrace, RightBrace, Comma, Dot, Colon}
use Rattle.tree.specs.declared.edition.Edition.{Edition}
use Rattle.tree.specs.declared.edition.Edition.TheVariants.{First, Second}
use Rattle.tree.specs.declared.operator.UnaryOperator.{UnaryOperator}
use Rattle.tree.specs.declared.operator.UnaryOperator.TheVariants.{Tilde}
use Rattle.tree.specs.declared.span.Span.{Span}
use Rattle.tree.specs.declared.operator.ChanDirection.{ChanDirection}
use Rattle.tree.specs.declared.operator.ChanDirection.TheVariants.{Both, Send, Receive}
use Rattle.tree.specs.declared.operator.DeclKeyword.{DeclKeyword}
use Rattle.tree.specs.declared.operator.DeclKeyword.TheVariants.{Const, Var, «Type» as type_keyword}
use Rattle.tree.specs.Syntax.{Identifier, TypeName, Expression, expression_node, ExpressionForm, name_expression, basic_literal, function_literal, composite_literal, literal_value, key_value, parenthesized, selector_expression, index_expression, instance_expression, slice_expression, type_assertion, call_expression, star_expression, unary_expression, binary_expression, array_type, ellipsis_array_type, slice_type, map_type, channel_type, function_type, struct_type, interface_type, Expressions, no_expression, expression_and, OptionalExpression, missing_expression, present_expression, Signature, signature_of, Parameters, no_parameter, named_and, unnamed_and, name_alone_and, Fields, no_field, fields_and, embedded_and, element_and, method_and, Statement, statement_node, StatementForm, empty_statement, declaration_statement, labeled_statement, expression_statement, send_statement, increment_statement, decrement_statement, assignment, operator_assignment, define_statement, go_statement, defer_statement, return_statement, break_statement, continue_statement, goto_statement, fallthrough_statement, block_statement, if_statement, for_statement, range_assignment, range_definition, switch_statement, type_switch_statement, select_statement, Statements, no_statement, statement_and, OptionalStatement, missing_statement, present_statement, CaseClauses, no_case, case_and, CommunicationClauses, no_communication, communication_and, Declaration, declaration_of, Specs, no_spec, value_and, type_and, Block, Function, TopLevelDeclaration, function_declaration, general_declaration, ImportSpec, ImportDeclaration, SourceFile}
use Rattle.meaning.specs.Cursor.{GoText, Cursor, Rule, ◌⨾◌, ◌⇒◌, nothing, never, one_of, optional, chosen, only_if, token, string_token, not_before, semicolon, semicolons, start_at, spanning, word, identifier, optional_identifier, identifiers}
use Rattle.meaning.specs.OperatorTokens.{operator_token, assign_operator, unary_token, literal_token, keyword_token, can_begin_type, is_dot, takes_arguments, is_arrow, is_left_brace}
use Rattle.meaning.specs.TypeParameters.{begins_parameters, is_parameter, is_one_parameter}
use Rattle.meaning.specs.WellFormed.{IsPrimary, IsUnaryOperand, NestByLevel, is_name, names_type, is_instance, is_type, are_types, is_constraint, takes_elements, is_parenthesized, is_call, FitsHeader, FitHeader, OptionalFitsHeader, InitFitsHeader, IsCommunication, IsElse, IsKept, FitTogether, end_constrained}

-- where an expression stands: where only a type can, where an expression can, at a key or a value among the elements of
-- a composite literal, as one of these elements, or as a constraint, where `~` can stand before terms
pub data Position : Type 0 where
  as_type : Position
  as_expression : Position
  as_value : Position
  as_element : Position
  as_constraint : Position

abbrev pub IsNoType : Position → Type 0
IsNoType as_type = ⊥
IsNoType place = Unit {0}

abbrev pub IsAmongElements : Position → Type 0
IsAmongElements as_value = Unit {0}
IsAmongElements as_element = Unit {0}
IsAmongElements place = ⊥

-- where an operand in brackets, or after `*`, stands
abbrev pub inside : Position → Position
inside as_type = as_type
inside place = as_expression

-- a type is selected from a package, which is a name; a name or a method from any primary expression
abbrev pub CanSelect : Position → Expression → Type 0
CanSelect as_type e = is_name e ≡ true
CanSelect place e = IsPrimary e

-- `*` makes a type of any type, and stands before an operand of an expression
abbrev pub CanPoint : Position → Expression → Type 0
CanPoint as_type e = Unit {0}
CanPoint place e = IsUnaryOperand e

-- where the operands of an operator stand
abbrev pub operand : Position → Position
operand as_constraint = as_constraint
operand place = as_expression

-- `~` stands in constraints alone
abbrev pub CanOperate : Position → UnaryOperator → Type 0
CanOperate place Tilde = place ≡ as_constraint
CanOperate place op = IsNoType place

-- where a type stands, a type's name takes a bracket that follows, in the second edition, and so do its package's name
-- and its own
abbrev pub end_of_selector : Edition → Position → Rule
end_of_selector edition as_type = not_before (takes_arguments edition)
end_of_selector edition place = nothing

-- and a name alone takes a dot
abbrev pub end_of_name : Edition → Position → Rule
end_of_name edition as_type = not_before is_dot ⨾ not_before (takes_arguments edition)
end_of_name edition place = nothing

abbrev pub IsSecond : Edition → Type 0
IsSecond First = ⊥
IsSecond Second = Unit {0}

-- where a type stands, brackets follow a type's name, and types stand in them
abbrev pub CanIndex : Edition → Position → Expression → Bool → Type 0
CanIndex edition as_type e are_types = IsSecond edition × (names_type e ≡ true) × (are_types ≡ true)
CanIndex edition place e are_types = Unit {0}

-- after one argument of an instance there is a comma; without one it is an index
abbrev pub after_instance : Expressions → Rule
after_instance (expression_and e no_expression) = token Comma
after_instance es = optional (token Comma)

-- No brace follows another type where a literal can stand: there it would begin a literal, of this type or, after a
-- function's type, of a function.
abbrev pub end_of_type : Position → Rule
end_of_type as_type = nothing
end_of_type place = not_before is_left_brace

-- `<-` before `chan` begins a type only where no expression can stand; `<-` straight after `chan` belongs to it
abbrev pub channel : Position → ChanDirection → Rule
channel place Both = token ChanKeyword ⨾ not_before is_arrow
channel place Send = token ChanKeyword ⨾ token Arrow
channel as_type Receive = token Arrow ⨾ token ChanKeyword
channel place Receive = never

-- arguments, perhaps with `...` after the last, and perhaps a comma after them
abbrev pub arguments : Expressions → Bool → Rule → Rule
arguments no_expression true list = never
arguments no_expression false list = nothing
arguments (expression_and e es) ellipsis list = list ⨾ only_if ellipsis (token Ellipsis) ⨾ optional (token Comma)

-- a list that may be empty
abbrev pub perhaps : Expressions → Rule → Rule
perhaps no_expression list = nothing
perhaps (expression_and e es) list = list

-- something in brackets or braces
abbrev pub in_parentheses : Rule → Rule
in_parentheses inner = token LeftParenthesis ⨾ inner ⨾ token RightParenthesis

abbrev pub in_brackets : Rule → Rule
in_brackets inner = token LeftBracket ⨾ inner ⨾ token RightBracket

abbrev pub in_braces : Rule → Rule
in_braces inner = token LeftBrace ⨾ inner ⨾ token RightBrace

-- a block, with the span of its braces
abbrev pub block : Span → Rule → Rule
block braces statements = spanning braces (in_braces statements)

-- the elements of a composite literal, perhaps with a comma after the last
abbrev pub elements : Expressions → Rule → Rule
elements no_expression list = nothing
elements (expression_and e es) list = list ⨾ optional (token Comma)

-- a slice expression's third bound, after a second colon
abbrev pub third_bound : OptionalExpression → Rule → Rule
third_bound missing_expression bound = nothing
third_bound (present_expression e) bound = token Colon ⨾ bound

-- the name that a type switch declares
abbrev pub guard_name : GoText → Option Identifier → Rule
guard_name text None = nothing
guard_name text (Some n) = identifier text n ⨾ token Define

-- a header's first statement with its semicolon, a lone semicolon, or neither
abbrev pub initial : OptionalStatement → Bool → Rule → Rule
initial missing_statement false statement = nothing
initial missing_statement true statement = semicolon
initial (present_statement s) false statement = never
initial (present_statement s) true statement = statement ⨾ semicolon

-- no statement stands there
abbrev pub IsMissing : OptionalStatement → Type 0
IsMissing missing_statement = Unit {0}
IsMissing (present_statement s) = ⊥

-- before `range` stand variables and `=`, or nothing
abbrev pub range_left : Expressions → Rule → Rule
range_left no_expression list = nothing
range_left (expression_and e es) list = list ⨾ token Assign

abbrev pub case_head : Expressions → Rule → Rule
case_head no_expression list = token DefaultKeyword
case_head (expression_and e es) list = token CaseKeyword ⨾ list

abbrev pub communication_head : OptionalStatement → Rule → Rule
communication_head missing_statement statement = token DefaultKeyword
communication_head (present_statement s) statement = token CaseKeyword ⨾ statement

-- A spec of constants has a type only before values; one of variables has a type or values.
abbrev pub ValueFits : DeclKeyword → OptionalExpression → Expressions → Type 0
ValueFits Const missing_expression es = Unit {0}
ValueFits Const (present_expression t) no_expression = ⊥
ValueFits Const (present_expression t) (expression_and e es) = Unit {0}
ValueFits Var missing_expression no_expression = ⊥
ValueFits Var missing_expression (expression_and e es) = Unit {0}
ValueFits Var (present_expression t) es = Unit {0}
ValueFits type_keyword t es = ⊥

abbrev pub IsTypeKeyword : DeclKeyword → Type 0
IsTypeKeyword type_keyword = Unit {0}
IsTypeKeyword keyword = ⊥

abbrev pub IsLast : Specs → Type 0
IsLast no_spec = Unit {0}
IsLast specs = ⊥

abbrev pub form_of : Statement → StatementForm
form_of (statement_node form span) = form

abbrev pub CommunicationFits : OptionalStatement → Type 0
CommunicationFits missing_statement = Unit {0}
CommunicationFits (present_statement s) = IsCommunication (form_of s)

-- what the lines in braces belong to
pub data Owner : Type 0 where
  of_struct : Owner
  of_interface : Owner

abbrev pub IsStruct : Owner → Type 0
IsStruct of_struct = Unit {0}
IsStruct of_interface = ⊥

-- in an interface neither `*` nor a tag stands at a type's name
abbrev pub CanEmbed : Owner → Bool → Option Span → Type 0
CanEmbed of_struct star tag = Unit {0}
CanEmbed of_interface star tag = (star ≡ false) × (tag ≡ None)

abbrev pub IsInterface : Owner → Type 0
IsInterface of_struct = ⊥
IsInterface of_interface = Unit {0}

abbrev pub optional_tag : Option Span → Rule
optional_tag None = nothing
optional_tag (Some span) = spanning span string_token

-- between the items of a list of parameters stand commas, and perhaps one after the last
abbrev pub before_item : Bool → Rule
before_item true = nothing
before_item false = token Comma

abbrev pub after_items : Bool → Rule
after_items true = nothing
after_items false = optional (token Comma)

-- an empty statement stands where the token before it ends
abbrev pub statement_start : StatementForm → Cursor → ℕ
statement_start empty_statement from = from.end
statement_start form from = start_at from

-- a struct embeds an instance; where the types of an interface are restricted, names alone are embedded as such
abbrev pub CanBeElement : Edition → Owner → Bool → Expression → Option Span → Type 0
CanBeElement edition of_struct star t tag = IsSecond edition × (is_instance t ≡ true)
CanBeElement edition of_interface star t tag =
    IsSecond edition × (star ≡ false) × (tag ≡ None) × (is_constraint t ≡ true) × (names_type t ≡ false)

abbrev pub element_place : Owner → Position
element_place of_struct = as_type
element_place of_interface = as_constraint

-- type parameters, where there are any
abbrev pub type_parameters : Type 0 → Parameters → Rule → Rule
type_parameters allowed no_parameter list = nothing
type_parameters allowed ps list = allowed ⇒ (end_constrained ps ≡ true) ⇒ in_brackets list

-- by the tokens from here on, type parameters stand here, or they do not
abbrev pub parameters_stand : Bool → Rule
parameters_stand stand from to = (from ≡ to) × (begins_parameters from.left ≡ stand)

-- no type parameters stand where the length of an array can be read
abbrev pub length_stands : ExpressionForm → Rule
length_stands (array_type n t) = (is_parameter n ≡ false) ⇒ parameters_stand false
length_stands form = nothing

abbrev pub no_type_parameters : Edition → Bool → Expression → Rule
no_type_parameters Second false (expression_node form span) = length_stands form
no_type_parameters edition is_alias t = nothing

-- what stands between the name of a type and the type, or `=` of an alias
abbrev pub after_type_name : Edition → Parameters → Bool → Expression → Rule → Rule
after_type_name edition no_parameter is_alias t list = no_type_parameters edition is_alias t
after_type_name edition ps is_alias t list =
    one_of (parameters_stand true) ((is_one_parameter ps ≡ true) ⇒ parameters_stand false)
    ⨾ type_parameters (IsSecond edition) ps list

-- only what has no receiver has type parameters
abbrev pub IsNoMethod : Option Parameters → Type 0
IsNoMethod None = Unit {0}
IsNoMethod (Some ps) = ⊥

-- the text of the name that an import with a dot has
abbrev pub dot_text : List ℕ
dot_text = 46 ∷ []

-- the name of an embedded type
abbrev pub qualifier : GoText → Option Identifier → Rule
qualifier text None = nothing
qualifier text (Some n) = identifier text n ⨾ token Dot

module _ (text : GoText) where
  abbrev pub type_name : TypeName → Rule
  type_name n = spanning n.span (qualifier text n.qualifier ⨾ identifier text n.name)

  unfoldable mutual
    pub SpellsExpression : Position → Expression → Rule
    SpellsExpression place (expression_node form span) = spanning span (SpellsForm place form)

    pub SpellsForm : Position → ExpressionForm → Rule
    SpellsForm place (name_expression name) = word text name ⨾ end_of_name text.edition place
    SpellsForm place (basic_literal kind) = IsNoType place ⇒ token (literal_token kind)
    SpellsForm place (function_literal signature ss braces) =
        IsNoType place ⇒ token FuncKeyword ⨾ SpellsSignature signature ⨾ block braces (SpellsStatements ss)
    SpellsForm place (composite_literal t es) =
        IsNoType place ⇒ (takes_elements t ≡ true)
        ⇒ SpellsExpression as_type t ⨾ in_braces (elements es (SpellsExpressions as_element es))
    SpellsForm place (literal_value es) =
        IsAmongElements place ⇒ in_braces (elements es (SpellsExpressions as_element es))
    SpellsForm place (key_value k v) =
        (place ≡ as_element) ⇒ SpellsExpression as_value k ⨾ token Colon ⨾ SpellsExpression as_value v
    SpellsForm place (parenthesized e) = in_parentheses (SpellsExpression (inside place) e)
    SpellsForm place (selector_expression e n) =
        CanSelect place e
        ⇒ SpellsExpression as_expression e ⨾ token Dot ⨾ identifier text n ⨾ end_of_selector text.edition place
    SpellsForm place (index_expression e i) =
        CanIndex text.edition place e (is_type i) ⇒ IsPrimary e
        ⇒ SpellsExpression as_expression e ⨾ in_brackets (SpellsExpression as_expression i)
    SpellsForm place (instance_expression e es) =
        IsSecond text.edition ⇒ CanIndex text.edition place e (are_types es) ⇒ IsPrimary e
        ⇒ SpellsExpression as_expression e
        ⨾ in_brackets (SpellsExpressions as_expression es ⨾ after_instance es)
    SpellsForm place (slice_expression e low high most) =
        IsNoType place ⇒ IsPrimary e
        ⇒ SpellsExpression as_expression e
        ⨾ in_brackets (SpellsOptional as_expression low ⨾ token Colon ⨾ SpellsOptional as_expression high
        ⨾ third_bound most (SpellsOptional as_expression most))
    SpellsForm place (type_assertion e t) =
        IsNoType place ⇒ IsPrimary e
        ⇒ SpellsExpression as_expression e ⨾ token Dot ⨾ in_parentheses (SpellsExpression as_type t)
    SpellsForm place (call_expression e es ellipsis) =
        IsNoType place ⇒ IsPrimary e
        ⇒ SpellsExpression as_expression e
        ⨾ in_parentheses (arguments es ellipsis (SpellsExpressions as_expression es))
    SpellsForm place (star_expression e) = CanPoint place e ⇒ token Star ⨾ SpellsExpression (inside place) e
    SpellsForm place (unary_expression op e) =
        CanOperate place op ⇒ IsUnaryOperand e ⇒ token (unary_token op) ⨾ SpellsExpression as_expression e
    SpellsForm place (binary_expression op l r) =
        IsNoType place ⇒ NestByLevel op l r
        ⇒ SpellsExpression (operand place) l ⨾ token (operator_token op) ⨾ SpellsExpression (operand place) r
    SpellsForm place (array_type n t) =
        in_brackets (SpellsExpression as_expression n) ⨾ SpellsExpression as_type t ⨾ end_of_type place
    SpellsForm place (ellipsis_array_type t) =
        in_brackets (token Ellipsis) ⨾ SpellsExpression as_type t ⨾ end_of_type place
    SpellsForm place (slice_type t) = in_brackets nothing ⨾ SpellsExpression as_type t ⨾ end_of_type place
    SpellsForm place (map_type k t) =
        token MapKeyword ⨾ in_brackets (SpellsExpression as_type k) ⨾ SpellsExpression as_type t ⨾ end_of_type place
    SpellsForm place (channel_type direction t) =
        channel place direction ⨾ SpellsExpression as_type t ⨾ end_of_type place
    SpellsForm place (function_type signature) =
        token FuncKeyword ⨾ SpellsSignature signature ⨾ end_of_type place
    SpellsForm place (struct_type fs) =
        token StructKeyword ⨾ in_braces (SpellsFields of_struct fs) ⨾ end_of_type place
    SpellsForm place (interface_type fs) =
        token InterfaceKeyword ⨾ in_braces (SpellsFields of_interface fs) ⨾ end_of_type place

    -- one expression or more, with commas between
    pub SpellsExpressions : Position → Expressions → Rule
    SpellsExpressions place no_expression = never
    SpellsExpressions place (expression_and e es) = SpellsExpression place e ⨾ SpellsMore place es

    pub SpellsMore : Position → Expressions → Rule
    SpellsMore place no_expression = nothing
    SpellsMore place (expression_and e es) = token Comma ⨾ SpellsExpression place e ⨾ SpellsMore place es

    pub SpellsOptional : Position → OptionalExpression → Rule
    SpellsOptional place missing_expression = nothing
    SpellsOptional place (present_expression e) = SpellsExpression place e

    pub SpellsSignature : Signature → Rule
    SpellsSignature (signature_of ps rs brackets) =
        FitTogether ps ⇒ in_parentheses (SpellsItems true ps)
        ⨾ chosen brackets (FitTogether rs ⇒ in_parentheses (SpellsItems true rs)) (SpellsResult rs)

    -- a result without brackets, or none
    pub SpellsResult : Parameters → Rule
    SpellsResult no_parameter = not_before can_begin_type
    SpellsResult (unnamed_and ellipsis t ps) =
        (ellipsis ≡ false) ⇒ (ps ≡ no_parameter) ⇒ (is_parenthesized t ≡ false) ⇒ SpellsExpression as_type t
    SpellsResult (named_and n ellipsis t ps) = never
    SpellsResult (name_alone_and n ps) = never

    -- items of a list of parameters, from the first on or behind another
    pub SpellsItems : Bool → Parameters → Rule
    SpellsItems first no_parameter = after_items first
    SpellsItems first (named_and n ellipsis t ps) =
        before_item first ⨾ identifier text n ⨾ only_if ellipsis (token Ellipsis) ⨾ SpellsExpression as_type t
        ⨾ SpellsItems false ps
    SpellsItems first (unnamed_and ellipsis t ps) =
        before_item first ⨾ only_if ellipsis (token Ellipsis) ⨾ SpellsExpression as_type t ⨾ SpellsItems false ps
    SpellsItems first (name_alone_and n ps) = before_item first ⨾ identifier text n ⨾ SpellsItems false ps

    -- type parameters, from the first on or behind another
    pub SpellsTypeParameters : Bool → Parameters → Rule
    SpellsTypeParameters first no_parameter = after_items first
    SpellsTypeParameters first (named_and n ellipsis t ps) =
        (ellipsis ≡ false) ⇒ (is_constraint t ≡ true)
        ⇒ before_item first ⨾ identifier text n ⨾ SpellsExpression as_constraint t ⨾ SpellsTypeParameters false ps
    SpellsTypeParameters first (unnamed_and ellipsis t ps) = never
    SpellsTypeParameters first (name_alone_and n ps) =
        before_item first ⨾ identifier text n ⨾ SpellsTypeParameters false ps

    pub SpellsFields : Owner → Fields → Rule
    SpellsFields owner no_field = nothing
    SpellsFields owner (fields_and ns t tag span fs) =
        IsStruct owner
        ⇒ spanning span (identifiers text ns ⨾ SpellsExpression as_type t ⨾ optional_tag tag)
        ⨾ semicolon ⨾ SpellsFields owner fs
    SpellsFields owner (embedded_and star n tag span fs) =
        CanEmbed owner star tag
        ⇒ spanning span (only_if star (token Star) ⨾ type_name n ⨾ optional_tag tag)
        ⨾ semicolon ⨾ SpellsFields owner fs
    SpellsFields owner (element_and star t tag span fs) =
        CanBeElement text.edition owner star t tag
        ⇒ spanning span (only_if star (token Star) ⨾ SpellsExpression (element_place owner) t ⨾ optional_tag tag)
        ⨾ semicolon ⨾ SpellsFields owner fs
    SpellsFields owner (method_and n signature span fs) =
        IsInterface owner
        ⇒ spanning span (identifier text n ⨾ SpellsSignature signature) ⨾ semicolon ⨾ SpellsFields owner fs

    pub SpellsStatement : Statement → Rule
    SpellsStatement (statement_node form span) from to =
        SpellsStatementForm form from to × (span.start ≡ statement_start form from) × (span.end ≡ to.end)

    pub SpellsStatementForm : StatementForm → Rule
    SpellsStatementForm empty_statement = nothing
    SpellsStatementForm (declaration_statement d) = SpellsDeclaration d
    SpellsStatementForm (labeled_statement n s) = identifier text n ⨾ token Colon ⨾ SpellsStatement s
    SpellsStatementForm (expression_statement e) = SpellsExpression as_expression e
    SpellsStatementForm (send_statement c v) =
        SpellsExpression as_expression c ⨾ token Arrow ⨾ SpellsExpression as_expression v
    SpellsStatementForm (increment_statement e) = SpellsExpression as_expression e ⨾ token Increment
    SpellsStatementForm (decrement_statement e) = SpellsExpression as_expression e ⨾ token Decrement
    SpellsStatementForm (assignment ls rs) =
        SpellsExpressions as_expression ls ⨾ token Assign ⨾ SpellsExpressions as_expression rs
    SpellsStatementForm (operator_assignment op l r) =
        SpellsExpression as_expression l ⨾ assign_operator op ⨾ SpellsExpression as_expression r
    SpellsStatementForm (define_statement ns rs) =
        identifiers text ns ⨾ token Define ⨾ SpellsExpressions as_expression rs
    SpellsStatementForm (go_statement e) = (is_call e ≡ true) ⇒ token GoKeyword ⨾ SpellsExpression as_expression e
    SpellsStatementForm (defer_statement e) =
        (is_call e ≡ true) ⇒ token DeferKeyword ⨾ SpellsExpression as_expression e
    SpellsStatementForm (return_statement es) = token ReturnKeyword ⨾ perhaps es (SpellsExpressions as_expression es)
    SpellsStatementForm (break_statement n) = token BreakKeyword ⨾ optional_identifier text n
    SpellsStatementForm (continue_statement n) = token ContinueKeyword ⨾ optional_identifier text n
    SpellsStatementForm (goto_statement n) = IsSecond text.edition ⇒ token GotoKeyword ⨾ identifier text n
    SpellsStatementForm fallthrough_statement = IsSecond text.edition ⇒ token FallthroughKeyword
    SpellsStatementForm (block_statement ss braces) = block braces (SpellsStatements ss)
    SpellsStatementForm (if_statement init has_semicolon c ss braces otherwise) =
        InitFitsHeader init ⇒ FitsHeader c
        ⇒ token IfKeyword
        ⨾ initial init has_semicolon (SpellsOptionalStatement init)
        ⨾ SpellsExpression as_expression c
        ⨾ block braces (SpellsStatements ss)
        ⨾ SpellsElse otherwise
    SpellsStatementForm (for_statement init c post has_semicolons ss braces) =
        InitFitsHeader init ⇒ OptionalFitsHeader c ⇒ InitFitsHeader post
        ⇒ token ForKeyword
        ⨾ chosen has_semicolons
        (SpellsOptionalStatement init ⨾ semicolon ⨾ SpellsOptional as_expression c ⨾ semicolon
        ⨾ SpellsOptionalStatement post)
        (IsMissing init ⇒ IsMissing post ⇒ SpellsOptional as_expression c)
        ⨾ block braces (SpellsStatements ss)
    SpellsStatementForm (range_assignment ls e ss braces) =
        FitHeader ls ⇒ FitsHeader e
        ⇒ token ForKeyword
        ⨾ range_left ls (SpellsExpressions as_expression ls)
        ⨾ token RangeKeyword
        ⨾ SpellsExpression as_expression e
        ⨾ block braces (SpellsStatements ss)
    SpellsStatementForm (range_definition ns e ss braces) =
        FitsHeader e
        ⇒ token ForKeyword
        ⨾ identifiers text ns
        ⨾ token Define
        ⨾ token RangeKeyword
        ⨾ SpellsExpression as_expression e
        ⨾ block braces (SpellsStatements ss)
    SpellsStatementForm (switch_statement init has_semicolon tag cs) =
        InitFitsHeader init ⇒ OptionalFitsHeader tag
        ⇒ token SwitchKeyword
        ⨾ initial init has_semicolon (SpellsOptionalStatement init)
        ⨾ SpellsOptional as_expression tag
        ⨾ in_braces (SpellsCases cs)
    SpellsStatementForm (type_switch_statement init has_semicolon n e cs) =
        InitFitsHeader init ⇒ FitsHeader e ⇒ IsPrimary e
        ⇒ token SwitchKeyword
        ⨾ initial init has_semicolon (SpellsOptionalStatement init)
        ⨾ guard_name text n
        ⨾ SpellsExpression as_expression e
        ⨾ token Dot
        ⨾ in_parentheses (token TypeKeyword)
        ⨾ in_braces (SpellsCases cs)
    SpellsStatementForm (select_statement cs) = token SelectKeyword ⨾ in_braces (SpellsCommunications cs)

    pub SpellsOptionalStatement : OptionalStatement → Rule
    SpellsOptionalStatement missing_statement = nothing
    SpellsOptionalStatement (present_statement s) = SpellsStatement s

    pub SpellsElse : OptionalStatement → Rule
    SpellsElse missing_statement = nothing
    SpellsElse (present_statement s) = IsElse (form_of s) ⇒ token ElseKeyword ⨾ SpellsStatement s

    -- statements up to a closing brace or the next clause
    pub SpellsStatements : Statements → Rule
    SpellsStatements no_statement = semicolons
    SpellsStatements (statement_and s ss) =
        semicolons ⨾ (IsKept (form_of s) ⇒ SpellsStatement s) ⨾ semicolon ⨾ SpellsStatements ss

    pub SpellsCases : CaseClauses → Rule
    SpellsCases no_case = nothing
    SpellsCases (case_and es ss span cs) =
        spanning span (case_head es (SpellsExpressions as_expression es) ⨾ token Colon ⨾ SpellsStatements ss)
        ⨾ SpellsCases cs

    pub SpellsCommunications : CommunicationClauses → Rule
    SpellsCommunications no_communication = nothing
    SpellsCommunications (communication_and c ss span cs) =
        CommunicationFits c
        ⇒ spanning span (communication_head c (SpellsOptionalStatement c) ⨾ token Colon ⨾ SpellsStatements ss)
        ⨾ SpellsCommunications cs

    pub SpellsDeclaration : Declaration → Rule
    SpellsDeclaration (declaration_of keyword specs is_grouped span) =
        spanning span (token (keyword_token keyword)
        ⨾ chosen is_grouped (in_parentheses (SpellsSpecs keyword true specs)) (SpellsSpecs keyword false specs))

    -- the specs of a group, or the one of a declaration without brackets
    pub SpellsSpecs : DeclKeyword → Bool → Specs → Rule
    SpellsSpecs keyword is_grouped no_spec = chosen is_grouped nothing never
    SpellsSpecs keyword is_grouped (value_and ns t es span specs) =
        ValueFits keyword t es
        ⇒ spanning span (identifiers text ns ⨾ SpellsOptional as_type t
        ⨾ perhaps es (token Assign ⨾ SpellsExpressions as_expression es))
        ⨾ chosen is_grouped (semicolon ⨾ SpellsSpecs keyword true specs) (IsLast specs ⇒ nothing)
    SpellsSpecs keyword is_grouped (type_and n ps is_alias t span specs) =
        IsTypeKeyword keyword
        ⇒ spanning span (identifier text n ⨾ after_type_name text.edition ps is_alias t (SpellsTypeParameters true ps)
        ⨾ only_if is_alias (token Assign) ⨾ SpellsExpression as_type t)
        ⨾ chosen is_grouped (semicolon ⨾ SpellsSpecs keyword true specs) (IsLast specs ⇒ nothing)

  -- an import's name, or a dot
  abbrev pub import_name : Option Identifier → Rule
  import_name None = nothing
  import_name (Some n) =
      one_of (identifier text n) (IsSecond text.edition ⇒ (n.text ≡ dot_text) ⇒ spanning n.span (token Dot))

  -- an import's path is the text between its quotes
  abbrev pub SpellsImportSpec : ImportSpec → Rule
  SpellsImportSpec i =
      (i.path ≡ slice_range text.bytes (i.path_span.start + 1) (i.path_span.end - 1))
      ⇒ spanning i.span (import_name i.name ⨾ spanning i.path_span string_token)

  -- the specs of a group
  abbrev pub SpellsImportSpecs : List ImportSpec → Rule
  SpellsImportSpecs [] = nothing
  SpellsImportSpecs (i ∷ is) = SpellsImportSpec i ⨾ semicolon ⨾ SpellsImportSpecs is

  abbrev pub SpellsOneImport : List ImportSpec → Rule
  SpellsOneImport (i ∷ []) = SpellsImportSpec i
  SpellsOneImport is = never

  abbrev pub SpellsImports : List ImportDeclaration → Rule
  SpellsImports [] = nothing
  SpellsImports (d ∷ ds) =
      spanning d.span (token ImportKeyword
      ⨾ chosen d.is_grouped (in_parentheses (SpellsImportSpecs d.specs)) (SpellsOneImport d.specs))
      ⨾ semicolon ⨾ SpellsImports ds

  abbrev pub SpellsReceiver : Option Parameters → Rule
  SpellsReceiver None = nothing
  SpellsReceiver (Some ps) = FitTogether ps ⇒ in_parentheses (SpellsItems true ps)

  abbrev pub SpellsBody : Option Block → Rule
  SpellsBody None = nothing
  SpellsBody (Some b) = block b.braces (SpellsStatements b.statements)

  abbrev pub SpellsFunction : Function → Rule
  SpellsFunction f =
      spanning f.span (token FuncKeyword ⨾ SpellsReceiver f.receiver ⨾ identifier text f.name
      ⨾ type_parameters (IsSecond text.edition × IsNoMethod f.receiver) f.type_parameters
      (SpellsTypeParameters true f.type_parameters)
      ⨾ SpellsSignature f.signature ⨾ SpellsBody f.body)

  abbrev pub SpellsTopLevel : TopLevelDeclaration → Rule
  SpellsTopLevel (function_declaration f) = SpellsFunction f
  SpellsTopLevel (general_declaration d) = SpellsDeclaration d

  abbrev pub SpellsTopLevels : List TopLevelDeclaration → Rule
  SpellsTopLevels [] = nothing
  SpellsTopLevels (d ∷ ds) = SpellsTopLevel d ⨾ semicolon ⨾ SpellsTopLevels ds

  abbrev pub SpellsFile : SourceFile → Rule
  SpellsFile file =
      spanning file.span (token PackageKeyword ⨾ identifier text file.package_name ⨾ semicolon
      ⨾ SpellsImports file.imports ⨾ SpellsTopLevels file.declarations)
