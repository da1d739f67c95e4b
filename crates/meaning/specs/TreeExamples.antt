-- Small texts to try the grammar on: trees that texts have where a reader may doubt it, and trees that none has. Each
-- text stands in a comment above its tokens and its tree.
-- (The Go specification, "Operator precedence", "Channel types", "Composite literals", "Function types",
-- "Struct types", "For statements", "Type switches", "Labeled statements".)
use Rattle.std.specs.Prelude.{ℕ, ◌+◌, true, false, List, [], ◌∷◌, Some, length, codes}
use Rattle.lexer.specs.declared.token.Token.{Token}
use Rattle.lexer.specs.declared.token.TokenKind.{TokenKind}
use Rattle.lexer.specs.declared.token.TokenKind.TheVariants.{Identifier as name_token, InterpretedString, ChanKeyword, DefaultKeyword, ForKeyword, FuncKeyword, IfKeyword, RangeKeyword, StructKeyword, SwitchKeyword, TypeKeyword, Minus, Star, LogicalAnd as logical_and_token, LogicalOr as logical_or_token, Arrow, EqualEqual, Define, Ellipsis, LeftParenthesis, RightParenthesis, LeftBracket, RightBracket, LeftBrace, RightBrace, Comma, Semicolon, Dot, Colon}
use Rattle.tree.specs.declared.edition.Edition.{Edition}
use Rattle.tree.specs.declared.edition.Edition.TheVariants.{First, Second}
use Rattle.tree.specs.declared.span.Span.{Span}
use Rattle.tree.specs.declared.operator.BinaryOperator.TheVariants.{LogicalOr, LogicalAnd, Equal, Subtract}
use Rattle.tree.specs.declared.operator.ChanDirection.TheVariants.{Both, Send, Receive}
use Rattle.tree.specs.declared.operator.DeclKeyword.TheVariants.{Const, «Type» as type_keyword}
use Rattle.tree.specs.declared.operator.UnaryOperator.TheVariants.{Negate, Tilde}
use Rattle.tree.specs.Syntax.{Identifier, TypeName, Expression, expression_node, ExpressionForm, name_expression, composite_literal, parenthesized, selector_expression, index_expression, type_assertion, call_expression, unary_expression, binary_expression, star_expression, slice_type, channel_type, function_type, struct_type, Expressions, no_expression, expression_and, missing_expression, present_expression, Parameters, no_parameter, named_and, unnamed_and, name_alone_and, signature_of, no_field, embedded_and, Statement, statement_node, StatementForm, empty_statement, declaration_statement, go_statement, labeled_statement, block_statement, if_statement, for_statement, range_assignment, type_switch_statement, no_statement, statement_and, missing_statement, no_case, case_and, declaration_of, no_spec, value_and, type_and}
use Rattle.meaning.specs.Cursor.{GoText, read_in, Cursor, Rule}
use Rattle.meaning.specs.Grammar.{as_type, as_expression, SpellsExpression, SpellsStatement}
use Rattle.meaning.specs.TreeOfText.{first_place}

-- a token: how many blanks stand before it, its kind, and its size
abbrev pub Piece : Type 0
Piece = ℕ × TokenKind × ℕ

-- the tokens from an offset on
abbrev pub laid_out : ℕ → List Piece → List Token
laid_out at [] = []
laid_out at (piece ∷ pieces) =
    record { kind = piece.1; start = at + piece.0; end = at + piece.0 + piece.2 }
    ∷ laid_out (at + piece.0 + piece.2) pieces

-- a text, and its tokens
pub record Example : Type 0 where
  pub text : List ℕ
  pub pieces : List Piece

abbrev pub begin : Example → Cursor
begin example = first_place (laid_out 0 example.pieces)

-- the text as an edition reads it
abbrev pub in_edition : Edition → Example → GoText
in_edition edition example = read_in edition example.text

-- The rule of a tree spells all tokens of the text, in the edition.
abbrev pub IsSpelledIn : Edition → Example → (GoText → Rule) → Type 0
IsSpelledIn edition example rule =
    rule (in_edition edition example) (begin example) record { left = []; end = length example.text }

-- In both editions it spells them.
abbrev pub IsSpelled : Example → (GoText → Rule) → Type 0
IsSpelled example rule = (edition : Edition) → IsSpelledIn edition example rule

-- The rule of a tree does not spell these tokens, nor the first of them.
abbrev pub IsNotSpelled : Example → (GoText → Rule) → Type 0
IsNotSpelled example rule = (edition : Edition) (to : Cursor) → rule (in_edition edition example) (begin example) to → ⊥

-- The rule of a tree spells no tokens of any text.
abbrev pub SpellsNothing : (GoText → Rule) → Type 0
SpellsNothing rule = (text : GoText) (from to : Cursor) → rule text from to → ⊥

-- It spells no tokens of any text in this edition.
abbrev pub SpellsNothingIn : Edition → (GoText → Rule) → Type 0
SpellsNothingIn edition rule = (bytes : List ℕ) (from to : Cursor) → rule (read_in edition bytes) from to → ⊥

-- the rules of a tree: of an expression, of a type, of a statement
abbrev pub expression : Expression → GoText → Rule
expression e text = SpellsExpression text as_expression e

abbrev pub type_of : Expression → GoText → Rule
type_of t text = SpellsExpression text as_type t

abbrev pub statement : Statement → GoText → Rule
statement s text = SpellsStatement text s

-- nodes, each with the offsets of its first byte and of the byte after its last one
abbrev pub from_to : ℕ → ℕ → Span
from_to start end = record { start = start; end = end }

abbrev pub node : ℕ → ℕ → ExpressionForm → Expression
node start end form = expression_node form (from_to start end)

abbrev pub doing : ℕ → ℕ → StatementForm → Statement
doing start end form = statement_node form (from_to start end)

-- a name that begins at an offset
abbrev pub name : List ℕ → ℕ → Identifier
name text at = record { text = text; span = from_to at (at + length text) }

abbrev pub use_of : List ℕ → ℕ → Expression
use_of text at = node at (at + length text) (name_expression text)

-- one expression alone
abbrev pub only : Expression → Expressions
only e = expression_and e no_expression

-- a - b - c
abbrev pub chain_text : Example
chain_text = record {
  text = codes "a - b - c";
  pieces = (0, name_token, 1) ∷ (1, Minus, 1) ∷ (1, name_token, 1) ∷ (1, Minus, 1) ∷ (1, name_token, 1) ∷ [];
}

abbrev pub chain : Expression
chain =
    node 0 9 (binary_expression Subtract
    (node 0 5 (binary_expression Subtract (use_of (codes "a") 0) (use_of (codes "b") 4)))
    (use_of (codes "c") 8))

-- the same operators nested to the right
abbrev pub chain_to_the_right : Expression
chain_to_the_right =
    node 0 9 (binary_expression Subtract
    (use_of (codes "a") 0)
    (node 4 9 (binary_expression Subtract (use_of (codes "b") 4) (use_of (codes "c") 8))))

-- a || b && c == d
abbrev pub levels_text : Example
levels_text = record {
  text = codes "a || b && c == d";
  pieces = (0, name_token, 1) ∷ (1, logical_or_token, 2) ∷ (1, name_token, 1) ∷ (1, logical_and_token, 2)
      ∷ (1, name_token, 1) ∷ (1, EqualEqual, 2) ∷ (1, name_token, 1) ∷ [];
}

abbrev pub levels : Expression
levels =
    node 0 16 (binary_expression LogicalOr
    (use_of (codes "a") 0)
    (node 5 16 (binary_expression LogicalAnd
    (use_of (codes "b") 5)
    (node 10 16 (binary_expression Equal (use_of (codes "c") 10) (use_of (codes "d") 15))))))

-- -a.b
abbrev pub negated_text : Example
negated_text = record {
  text = codes "-a.b";
  pieces = (0, Minus, 1) ∷ (0, name_token, 1) ∷ (0, Dot, 1) ∷ (0, name_token, 1) ∷ [];
}

abbrev pub negated : Expression
negated =
    node 0 4 (unary_expression Negate (node 1 4 (selector_expression (use_of (codes "a") 1) (name (codes "b") 3))))

-- the operator inside the selector
abbrev pub selector_of_negated : Expression
selector_of_negated =
    node 0 4 (selector_expression (node 0 2 (unary_expression Negate (use_of (codes "a") 1))) (name (codes "b") 3))

-- a.b.c
abbrev pub name_of_two_dots : Expression
name_of_two_dots =
    node 0 5 (selector_expression
    (node 0 3 (selector_expression (use_of (codes "a") 0) (name (codes "b") 2)))
    (name (codes "c") 4))

-- chan <- chan int
abbrev pub send_only_text : Example
send_only_text = record {
  text = codes "chan <- chan int";
  pieces = (0, ChanKeyword, 4) ∷ (1, Arrow, 2) ∷ (1, ChanKeyword, 4) ∷ (1, name_token, 3) ∷ [];
}

abbrev pub send_only : Expression
send_only = node 0 16 (channel_type Send (node 8 16 (channel_type Both (use_of (codes "int") 13))))

-- a channel of both directions, of `<-chan int`
abbrev pub channel_of_receivers : Expression
channel_of_receivers = node 0 16 (channel_type Both (node 5 16 (channel_type Receive (use_of (codes "int") 13))))

-- <-chan <-chan int
abbrev pub receivers_text : Example
receivers_text = record {
  text = codes "<-chan <-chan int";
  pieces = (0, Arrow, 2) ∷ (0, ChanKeyword, 4) ∷ (1, Arrow, 2) ∷ (0, ChanKeyword, 4) ∷ (1, name_token, 3) ∷ [];
}

abbrev pub receivers : Expression
receivers = node 0 17 (channel_type Receive (node 7 17 (channel_type Receive (use_of (codes "int") 14))))

-- <-chan int
abbrev pub receiver : Expression
receiver = node 0 10 (channel_type Receive (use_of (codes "int") 7))

-- []func(){f}
abbrev pub literal_text : Example
literal_text = record {
  text = codes "[]func(){f}";
  pieces = (0, LeftBracket, 1) ∷ (0, RightBracket, 1) ∷ (0, FuncKeyword, 4) ∷ (0, LeftParenthesis, 1)
      ∷ (0, RightParenthesis, 1) ∷ (0, LeftBrace, 1) ∷ (0, name_token, 1) ∷ (0, RightBrace, 1) ∷ [];
}

abbrev pub literal_of_functions : Expression
literal_of_functions =
    node 0 11 (composite_literal
    (node 0 8 (slice_type (node 2 8 (function_type (signature_of no_parameter no_parameter false)))))
    (only (use_of (codes "f") 9)))

-- a.b{}
abbrev pub qualified_text : Example
qualified_text = record {
  text = codes "a.b{}";
  pieces = (0, name_token, 1) ∷ (0, Dot, 1) ∷ (0, name_token, 1) ∷ (0, LeftBrace, 1) ∷ (0, RightBrace, 1) ∷ [];
}

abbrev pub qualified_literal : Expression
qualified_literal =
    node 0 5 (composite_literal
    (node 0 3 (selector_expression (use_of (codes "a") 0) (name (codes "b") 2)))
    no_expression)

-- f(x...,)
abbrev pub call_text : Example
call_text = record {
  text = codes "f(x...,)";
  pieces = (0, name_token, 1) ∷ (0, LeftParenthesis, 1) ∷ (0, name_token, 1) ∷ (0, Ellipsis, 3) ∷ (0, Comma, 1)
      ∷ (0, RightParenthesis, 1) ∷ [];
}

abbrev pub call_with_ellipsis : Expression
call_with_ellipsis = node 0 8 (call_expression (use_of (codes "f") 0) (only (use_of (codes "x") 2)) true)

-- x.(type)
abbrev pub guard_text : Example
guard_text = record {
  text = codes "x.(type)";
  pieces = (0, name_token, 1) ∷ (0, Dot, 1) ∷ (0, LeftParenthesis, 1) ∷ (0, TypeKeyword, 4)
      ∷ (0, RightParenthesis, 1) ∷ [];
}

-- func(a, b T)
abbrev pub named_text : Example
named_text = record {
  text = codes "func(a, b T)";
  pieces = (0, FuncKeyword, 4) ∷ (0, LeftParenthesis, 1) ∷ (0, name_token, 1) ∷ (0, Comma, 1) ∷ (1, name_token, 1)
      ∷ (1, name_token, 1) ∷ (0, RightParenthesis, 1) ∷ [];
}

-- a function type without results
abbrev pub function_of : Parameters → ExpressionForm
function_of parameters = function_type (signature_of parameters no_parameter false)

abbrev pub one_type_for_two : Expression
one_type_for_two =
    node 0 12 (function_of
    (name_alone_and (name (codes "a") 5) (named_and (name (codes "b") 8) false (use_of (codes "T") 10) no_parameter)))

-- func(a, *T, x int)
abbrev pub mixed_text : Example
mixed_text = record {
  text = codes "func(a, *T, x int)";
  pieces = (0, FuncKeyword, 4) ∷ (0, LeftParenthesis, 1) ∷ (0, name_token, 1) ∷ (0, Comma, 1) ∷ (1, Star, 1)
      ∷ (0, name_token, 1) ∷ (0, Comma, 1) ∷ (1, name_token, 1) ∷ (1, name_token, 3) ∷ (0, RightParenthesis, 1) ∷ [];
}

abbrev pub type_among_names : Expression
type_among_names =
    node 0 18 (function_of
    (name_alone_and (name (codes "a") 5)
    (unnamed_and false (node 8 10 (star_expression (use_of (codes "T") 9)))
    (named_and (name (codes "x") 12) false (use_of (codes "int") 14) no_parameter))))

-- func(a, T)
abbrev pub types_text : Example
types_text = record {
  text = codes "func(a, T)";
  pieces = (0, FuncKeyword, 4) ∷ (0, LeftParenthesis, 1) ∷ (0, name_token, 1) ∷ (0, Comma, 1) ∷ (1, name_token, 1)
      ∷ (0, RightParenthesis, 1) ∷ [];
}

abbrev pub two_types : Expression
two_types =
    node 0 10 (function_of
    (unnamed_and false (use_of (codes "a") 5) (unnamed_and false (use_of (codes "T") 8) no_parameter)))

-- func(a int, b), with b as a name or as a type
abbrev pub name_at_the_end : Expression
name_at_the_end =
    node 0 14 (function_of
    (named_and (name (codes "a") 5) false (use_of (codes "int") 7) (name_alone_and (name (codes "b") 12) no_parameter)))

abbrev pub bare_type_at_the_end : Expression
bare_type_at_the_end =
    node 0 14 (function_of
    (named_and (name (codes "a") 5) false (use_of (codes "int") 7)
    (unnamed_and false (use_of (codes "b") 12) no_parameter)))

-- func() (int)
abbrev pub result_text : Example
result_text = record {
  text = codes "func() (int)";
  pieces = (0, FuncKeyword, 4) ∷ (0, LeftParenthesis, 1) ∷ (0, RightParenthesis, 1) ∷ (1, LeftParenthesis, 1)
      ∷ (0, name_token, 3) ∷ (0, RightParenthesis, 1) ∷ [];
}

abbrev pub list_of_one_result : Expression
list_of_one_result =
    node 0 12 (function_type
    (signature_of no_parameter (unnamed_and false (use_of (codes "int") 8) no_parameter) true))

-- the result is a type in brackets
abbrev pub type_in_brackets : Expression
type_in_brackets =
    node 0 12 (function_type
    (signature_of no_parameter
    (unnamed_and false (node 7 12 (parenthesized (use_of (codes "int") 8))) no_parameter)
    false))

-- struct { *p.T "k" }
abbrev pub embedded_text : Example
embedded_text = record {
  text = codes "struct { *p.T \"k\" }";
  pieces = (0, StructKeyword, 6) ∷ (1, LeftBrace, 1) ∷ (1, Star, 1) ∷ (0, name_token, 1) ∷ (0, Dot, 1)
      ∷ (0, name_token, 1) ∷ (1, InterpretedString, 3) ∷ (1, RightBrace, 1) ∷ [];
}

abbrev pub pointer_of_package : TypeName
pointer_of_package =
    record { qualifier = Some (name (codes "p") 10); name = name (codes "T") 12; span = from_to 10 13 }

abbrev pub embedded_pointer : Expression
embedded_pointer =
    node 0 19 (struct_type (embedded_and true pointer_of_package (Some (from_to 14 17)) (from_to 9 17) no_field))

-- if x == (T{}) { }
abbrev pub header_text : Example
header_text = record {
  text = codes "if x == (T{}) { }";
  pieces = (0, IfKeyword, 2) ∷ (1, name_token, 1) ∷ (1, EqualEqual, 2) ∷ (1, LeftParenthesis, 1) ∷ (0, name_token, 1)
      ∷ (0, LeftBrace, 1) ∷ (0, RightBrace, 1) ∷ (0, RightParenthesis, 1) ∷ (1, LeftBrace, 1) ∷ (1, RightBrace, 1) ∷ [];
}

-- T{}
abbrev pub empty_literal : ℕ → Expression
empty_literal at = node at (at + 3) (composite_literal (use_of (codes "T") at) no_expression)

abbrev pub literal_in_brackets : Statement
literal_in_brackets =
    doing 0 17 (if_statement missing_statement false
    (node 3 13 (binary_expression Equal (use_of (codes "x") 3) (node 8 13 (parenthesized (empty_literal 9)))))
    no_statement (from_to 14 17) missing_statement)

-- if T{} { }
abbrev pub bare_literal_in_header : Statement
bare_literal_in_header =
    doing 0 10 (if_statement missing_statement false (empty_literal 3) no_statement (from_to 7 10) missing_statement)

-- for ;; { }
abbrev pub semicolons_text : Example
semicolons_text = record {
  text = codes "for ;; { }";
  pieces = (0, ForKeyword, 3) ∷ (1, Semicolon, 1) ∷ (0, Semicolon, 1) ∷ (1, LeftBrace, 1) ∷ (1, RightBrace, 1) ∷ [];
}

abbrev pub empty_header : Statement
empty_header =
    doing 0 10 (for_statement missing_statement missing_expression missing_statement true no_statement (from_to 7 10))

-- for range c { }
abbrev pub range_text : Example
range_text = record {
  text = codes "for range c { }";
  pieces = (0, ForKeyword, 3) ∷ (1, RangeKeyword, 5) ∷ (1, name_token, 1) ∷ (1, LeftBrace, 1) ∷ (1, RightBrace, 1) ∷ [];
}

abbrev pub range_without_names : Statement
range_without_names = doing 0 15 (range_assignment no_expression (use_of (codes "c") 10) no_statement (from_to 12 15))

-- switch x := e.(type) { default: }
abbrev pub switch_text : Example
switch_text = record {
  text = codes "switch x := e.(type) { default: }";
  pieces = (0, SwitchKeyword, 6) ∷ (1, name_token, 1) ∷ (1, Define, 2) ∷ (1, name_token, 1) ∷ (0, Dot, 1)
      ∷ (0, LeftParenthesis, 1) ∷ (0, TypeKeyword, 4) ∷ (0, RightParenthesis, 1) ∷ (1, LeftBrace, 1)
      ∷ (1, DefaultKeyword, 7) ∷ (0, Colon, 1) ∷ (1, RightBrace, 1) ∷ [];
}

abbrev pub type_switch : Statement
type_switch =
    doing 0 33 (type_switch_statement missing_statement false (Some (name (codes "x") 7)) (use_of (codes "e") 12)
    (case_and no_expression no_statement (from_to 23 31) no_case))

-- { L: }
abbrev pub label_text : Example
label_text = record {
  text = codes "{ L: }";
  pieces = (0, LeftBrace, 1) ∷ (1, name_token, 1) ∷ (0, Colon, 1) ∷ (1, RightBrace, 1) ∷ [];
}

abbrev pub label_at_the_end : Statement
label_at_the_end =
    doing 0 6 (block_statement
    (statement_and (doing 2 4 (labeled_statement (name (codes "L") 2) (doing 4 4 empty_statement))) no_statement)
    (from_to 0 6))

-- { ; }, with the empty statement in the tree
abbrev pub empty_in_block : Statement
empty_in_block =
    doing 0 5 (block_statement (statement_and (doing 1 1 empty_statement) no_statement) (from_to 0 5))

-- go f
abbrev pub go_without_call : Statement
go_without_call = doing 0 4 (go_statement (use_of (codes "f") 3))

-- const a int
abbrev pub constant_without_value : Statement
constant_without_value =
    doing 0 11 (declaration_statement (declaration_of Const
    (value_and (name (codes "a") 6 ∷ []) (present_expression (use_of (codes "int") 8)) no_expression (from_to 6 11)
    no_spec)
    false (from_to 0 11)))

-- []T[int], as an index of a slice type
abbrev pub index_of_slice_type : Expression
index_of_slice_type =
    node 0 8 (index_expression (node 0 3 (slice_type (use_of (codes "T") 2))) (use_of (codes "int") 4))

-- T[int]
abbrev pub instance : Expression
instance = node 0 6 (index_expression (use_of (codes "T") 0) (use_of (codes "int") 2))

-- ~y
abbrev pub tilde_before_operand : Expression
tilde_before_operand = node 0 2 (unary_expression Tilde (use_of (codes "y") 1))

-- type T [P *C]int
abbrev pub length_text : Example
length_text = record {
  text = codes "type T [P *C]int";
  pieces = (0, TypeKeyword, 4) ∷ (1, name_token, 1) ∷ (1, LeftBracket, 1) ∷ (0, name_token, 1) ∷ (1, Star, 1)
      ∷ (0, name_token, 1) ∷ (0, RightBracket, 1) ∷ (0, name_token, 3) ∷ [];
}

-- with a type parameter P
abbrev pub parameter_for_length : Statement
parameter_for_length =
    doing 0 16 (declaration_statement (declaration_of type_keyword
    (type_and (name (codes "T") 5)
    (named_and (name (codes "P") 8) false (node 10 12 (star_expression (use_of (codes "C") 11))) no_parameter)
    false (use_of (codes "int") 13) (from_to 5 16) no_spec)
    false (from_to 0 16)))

-- Each text has this tree.
pub record DelicateTrees : Type 0 where
  -- Operators of one level nest to the left, tighter ones inside looser ones.
  pub nests_to_the_left : IsSpelled chain_text (expression chain)
  pub nests_by_level : IsSpelled levels_text (expression levels)
  -- An operator before its operand is looser than a selector.
  pub selects_first : IsSpelled negated_text (expression negated)
  -- An arrow belongs to the `chan` before it, where there is one.
  pub arrow_behind_chan : IsSpelled send_only_text (type_of send_only)
  pub arrow_before_chan : IsSpelled receivers_text (type_of receivers)
  -- Braces behind the type of an operand are those of a literal.
  pub braces_behind_type : IsSpelled literal_text (expression literal_of_functions)
  pub braces_behind_name : IsSpelled qualified_text (expression qualified_literal)
  -- A comma may stand behind the last argument and its dots.
  pub comma_behind_dots : IsSpelled call_text (expression call_with_ellipsis)
  -- In a list with an item of name and type a name alone takes the type of the next item; else each item is a type.
  pub names_with_one_type : IsSpelled named_text (type_of one_type_for_two)
  pub type_among_names : IsSpelled mixed_text (type_of type_among_names)
  pub types_alone : IsSpelled types_text (type_of two_types)
  -- A result that begins with a bracket is a list.
  pub list_of_results : IsSpelled result_text (type_of list_of_one_result)
  -- A line of a struct can have a star, a package and a tag; the semicolon before a brace may be missing.
  pub embedded_with_tag : IsSpelled embedded_text (type_of embedded_pointer)
  -- In a header a literal of a bare type name can stand in brackets.
  pub literal_in_header : IsSpelled header_text (statement literal_in_brackets)
  -- Each part of the header of a `for` can be missing.
  pub semicolons_alone : IsSpelled semicolons_text (statement empty_header)
  pub range_alone : IsSpelled range_text (statement range_without_names)
  -- A type switch can declare a name, and `default` can have no statements.
  pub guard_with_name : IsSpelled switch_text (statement type_switch)
  -- A label before a brace has an empty statement, which has no bytes.
  pub label_before_brace : IsSpelled label_text (statement label_at_the_end)

-- No text has one of these trees, or not this text.
pub record RefusedTrees : Type 0 where
  -- operators of one level nested to the right
  pub nested_to_the_right : SpellsNothing (expression chain_to_the_right)
  -- an operator before the operand of a selector
  pub selector_of_operation : SpellsNothing (expression selector_of_negated)
  -- a type's name with two dots
  pub two_dots : SpellsNothing (type_of name_of_two_dots)
  -- a literal of a bare type name in a header
  pub bare_literal : SpellsNothing (statement bare_literal_in_header)
  -- a result that is a type in brackets, and no list
  pub result_in_brackets : SpellsNothing (type_of type_in_brackets)
  -- behind an item of name and type a name alone at the end, as a name or as a type
  pub last_name : SpellsNothing (type_of name_at_the_end)
  pub last_type : SpellsNothing (type_of bare_type_at_the_end)
  -- a channel of both directions, of what the arrow behind `chan` would begin
  pub arrow_left_behind : IsNotSpelled send_only_text (type_of channel_of_receivers)
  -- a channel type that begins with an arrow, where an expression stands: there the arrow is an operator
  pub arrow_as_operator : SpellsNothing (expression receiver)
  -- an empty statement in a block without a label, a `go` without a call, a constant with a type and no value
  pub empty_statement_kept : SpellsNothing (statement empty_in_block)
  pub no_call : SpellsNothing (statement go_without_call)
  pub no_value : SpellsNothing (statement constant_without_value)
  -- an index of a slice type, in the edition that gives the bracket to the type's name; and an instance, in the other
  pub index_behind_name : SpellsNothingIn Second (expression index_of_slice_type)
  pub instance_in_the_first : SpellsNothingIn First (type_of instance)
  -- a type parameter where the length of an array can be read
  pub parameter_in_brackets : (to : Cursor)
      → statement parameter_for_length (in_edition Second length_text) (begin length_text) to
      → ⊥
  -- `~` before an operand, in both editions
  pub tilde_outside : SpellsNothing (expression tilde_before_operand)
  -- `x.(type)` as a type assertion, or as any other expression
  pub guard_as_assertion : (operand type : Expression) (span : Span)
      → IsNotSpelled guard_text (expression (expression_node (type_assertion operand type) span))
  pub guard_as_expression : (edition : Edition) (e : Expression) → IsSpelledIn edition guard_text (expression e) → ⊥
