-- The syntax of a file without the addresses at which the program keeps it. Two trees are the same tree exactly
-- if their syntax is equal. A node's span is the offset of its first byte and that of the byte after its last one;
-- it belongs to the syntax. Where a form has spans besides other parts, the last one is its own, and one before it that
-- of its braces or of a tag. The forms are named as Go's own go/ast and the specification name them.
-- (The Go specification, from "Source file organization" back to "Types".)
use Rattle.std.specs.Prelude.{ℕ, Bool, List, Option}
use Rattle.tree.specs.declared.operator.BasicLitKind.{BasicLitKind}
use Rattle.tree.specs.declared.operator.BinaryOperator.{BinaryOperator}
use Rattle.tree.specs.declared.operator.ChanDirection.{ChanDirection}
use Rattle.tree.specs.declared.operator.DeclKeyword.{DeclKeyword}
use Rattle.tree.specs.declared.operator.UnaryOperator.{UnaryOperator}
use Rattle.tree.specs.declared.span.Span.{Span}

-- a name, as it is written at one place
pub record Identifier : Type 0 where
  pub text : List ℕ
  pub span : Span

-- the name of a type: `name` or `package.name`
pub record TypeName : Type 0 where
  pub qualifier : Option Identifier
  pub name : Identifier
  pub span : Span

mutual
  -- an expression or a type
  pub data Expression : Type 0 where
    expression_node : ExpressionForm → Span → Expression

  pub data ExpressionForm : Type 0 where
    -- a name, with its text
    name_expression : List ℕ → ExpressionForm
    -- a number, a rune or a string
    basic_literal : BasicLitKind → ExpressionForm
    -- func signature { statements }, with the span of the braces
    function_literal : Signature → Statements → Span → ExpressionForm
    -- type{ elements }
    composite_literal : Expression → Expressions → ExpressionForm
    -- { elements }, an element without a type
    literal_value : Expressions → ExpressionForm
    -- key: value, an element; each may be a literal_value
    key_value : Expression → Expression → ExpressionForm
    -- (operand)
    parenthesized : Expression → ExpressionForm
    -- operand.name, and the type package.name
    selector_expression : Expression → Identifier → ExpressionForm
    -- operand[index], and an instance with one argument
    index_expression : Expression → Expression → ExpressionForm
    -- operand[arguments], an instance with two arguments or more, or with one and a comma
    instance_expression : Expression → Expressions → ExpressionForm
    -- operand[low:high:max]
    slice_expression : Expression → OptionalExpression → OptionalExpression → OptionalExpression → ExpressionForm
    -- operand.(type)
    type_assertion : Expression → Expression → ExpressionForm
    -- callee(arguments), and whether ... stands after the last one
    call_expression : Expression → Expressions → Bool → ExpressionForm
    -- *operand, and the type of pointers
    star_expression : Expression → ExpressionForm
    -- operator operand
    unary_expression : UnaryOperator → Expression → ExpressionForm
    -- left operator right
    binary_expression : BinaryOperator → Expression → Expression → ExpressionForm
    -- [length]element
    array_type : Expression → Expression → ExpressionForm
    -- [...]element
    ellipsis_array_type : Expression → ExpressionForm
    -- []element
    slice_type : Expression → ExpressionForm
    -- map[key]element
    map_type : Expression → Expression → ExpressionForm
    -- chan element, chan<- element, <-chan element
    channel_type : ChanDirection → Expression → ExpressionForm
    -- func signature
    function_type : Signature → ExpressionForm
    -- struct { fields }
    struct_type : Fields → ExpressionForm
    -- interface { fields }
    interface_type : Fields → ExpressionForm

  pub data Expressions : Type 0 where
    no_expression : Expressions
    expression_and : Expression → Expressions → Expressions

  pub data OptionalExpression : Type 0 where
    missing_expression : OptionalExpression
    present_expression : Expression → OptionalExpression

  -- parameters, results, and whether the results stand in brackets
  pub data Signature : Type 0 where
    signature_of : Parameters → Parameters → Bool → Signature

  -- the items of a list of parameters; the truth value tells whether ... stands before the type
  pub data Parameters : Type 0 where
    no_parameter : Parameters
    -- name type
    named_and : Identifier → Bool → Expression → Parameters → Parameters
    -- type
    unnamed_and : Bool → Expression → Parameters → Parameters
    -- a name that takes the type of the next item
    name_alone_and : Identifier → Parameters → Parameters

  -- the lines of a struct type or an interface type, with the spans of their tags
  pub data Fields : Type 0 where
    no_field : Fields
    -- names type tag
    fields_and : List Identifier → Expression → Option Span → Span → Fields → Fields
    -- name tag, and whether * stands before it
    embedded_and : Bool → TypeName → Option Span → Span → Fields → Fields
    -- an instance that a struct embeds, with its tag, and whether * stands before it; or what the types of an
    -- interface are restricted to, where it is more than a name
    element_and : Bool → Expression → Option Span → Span → Fields → Fields
    -- name signature
    method_and : Identifier → Signature → Span → Fields → Fields

  pub data Statement : Type 0 where
    statement_node : StatementForm → Span → Statement

  pub data StatementForm : Type 0 where
    -- the empty statement after a label
    empty_statement : StatementForm
    -- a declaration inside a function
    declaration_statement : Declaration → StatementForm
    -- label: statement
    labeled_statement : Identifier → Statement → StatementForm
    expression_statement : Expression → StatementForm
    -- channel <- value
    send_statement : Expression → Expression → StatementForm
    -- operand++
    increment_statement : Expression → StatementForm
    -- operand--
    decrement_statement : Expression → StatementForm
    -- left = right
    assignment : Expressions → Expressions → StatementForm
    -- left operator= right
    operator_assignment : BinaryOperator → Expression → Expression → StatementForm
    -- names := values
    define_statement : List Identifier → Expressions → StatementForm
    go_statement : Expression → StatementForm
    defer_statement : Expression → StatementForm
    return_statement : Expressions → StatementForm
    -- with the label, if any
    break_statement : Option Identifier → StatementForm
    continue_statement : Option Identifier → StatementForm
    -- with the label
    goto_statement : Identifier → StatementForm
    fallthrough_statement : StatementForm
    -- { statements }, with the span of the braces
    block_statement : Statements → Span → StatementForm
    -- if init; condition { statements } else otherwise, and whether the semicolon stands there
    if_statement : OptionalStatement → Bool → Expression → Statements → Span → OptionalStatement → StatementForm
    -- for init; condition; post { statements }, and whether the semicolons stand there
    for_statement : OptionalStatement → OptionalExpression → OptionalStatement → Bool → Statements → Span
        → StatementForm
    -- for left = range operand { statements }, or for range operand { statements }
    range_assignment : Expressions → Expression → Statements → Span → StatementForm
    -- for names := range operand { statements }
    range_definition : List Identifier → Expression → Statements → Span → StatementForm
    -- switch init; tag { clauses }, and whether the semicolon stands there
    switch_statement : OptionalStatement → Bool → OptionalExpression → CaseClauses → StatementForm
    -- switch init; name := operand.(type) { clauses }, and whether the semicolon stands there
    type_switch_statement : OptionalStatement → Bool → Option Identifier → Expression → CaseClauses → StatementForm
    -- select { clauses }
    select_statement : CommunicationClauses → StatementForm

  pub data Statements : Type 0 where
    no_statement : Statements
    statement_and : Statement → Statements → Statements

  pub data OptionalStatement : Type 0 where
    missing_statement : OptionalStatement
    present_statement : Statement → OptionalStatement

  -- case expressions: statements; default has no expression
  pub data CaseClauses : Type 0 where
    no_case : CaseClauses
    case_and : Expressions → Statements → Span → CaseClauses → CaseClauses

  -- case communication: statements; default has none
  pub data CommunicationClauses : Type 0 where
    no_communication : CommunicationClauses
    communication_and : OptionalStatement → Statements → Span → CommunicationClauses → CommunicationClauses

  -- keyword specs, and whether they stand in brackets
  pub data Declaration : Type 0 where
    declaration_of : DeclKeyword → Specs → Bool → Span → Declaration

  pub data Specs : Type 0 where
    no_spec : Specs
    -- names type = values
    value_and : List Identifier → OptionalExpression → Expressions → Span → Specs → Specs
    -- name[type parameters] type, and whether = stands between them; without brackets there is no type parameter
    type_and : Identifier → Parameters → Bool → Expression → Span → Specs → Specs

-- an import: its name, which may be `.`, the text between its path's quotes, and the span of the path's token
pub record ImportSpec : Type 0 where
  pub name : Option Identifier
  pub path : List ℕ
  pub path_span : Span
  pub span : Span

-- import specs, and whether they stand in brackets
pub record ImportDeclaration : Type 0 where
  pub specs : List ImportSpec
  pub is_grouped : Bool
  pub span : Span

-- the statements of a block, and the span of its braces
pub record Block : Type 0 where
  pub statements : Statements
  pub braces : Span

-- A function, or with a receiver a method. Type parameters stand as parameters do: names, each with its constraint or
-- with that of the next one; without brackets there is none.
pub record Function : Type 0 where
  pub receiver : Option Parameters
  pub name : Identifier
  pub type_parameters : Parameters
  pub signature : Signature
  pub body : Option Block
  pub span : Span

-- what stands in a file after its imports
pub data TopLevelDeclaration : Type 0 where
  function_declaration : Function → TopLevelDeclaration
  general_declaration : Declaration → TopLevelDeclaration

pub record SourceFile : Type 0 where
  pub package_name : Identifier
  pub imports : List ImportDeclaration
  pub declarations : List TopLevelDeclaration
  pub span : Span
