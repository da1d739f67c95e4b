-- Small texts on which the reader is tried by computing: each Go text stands above its tokens and the tree that it is
-- read to. Then texts that have no tree. That the tokens are those of the text is not part of the claim.
-- (The Go specification, from "Types" to "Source file organization".)
use Rattle.std.specs.Prelude.{◌≡◌, ℕ, ◌≤◌, false, List, [], ◌∷◌, length, Some, None, codes, true}
use Rattle.lexer.specs.declared.token.TokenKind.TheVariants.{Ampersand, AmpersandAssign, AndNotAssign, Arrow, Assign, Bang, BreakKeyword, Caret, CaretAssign, CaseKeyword, ChanKeyword, Colon, Comma, ConstKeyword, ContinueKeyword, Decrement, DefaultKeyword, DeferKeyword, Define, Dot, Ellipsis, ElseKeyword, EqualEqual, FallthroughKeyword, ForKeyword, FuncKeyword, GoKeyword, GotoKeyword, GreaterThan, IfKeyword, ImportKeyword, Increment, InterfaceKeyword, LeftBrace, LeftBracket, LeftParenthesis, LessThan, MapKeyword, Minus, MinusAssign, PackageKeyword, Percent, PercentAssign, Pipe, PipeAssign, PlusAssign, RangeKeyword, ReturnKeyword, RightBrace, RightBracket, RightParenthesis, SelectKeyword, Semicolon, ShiftLeftAssign, ShiftRightAssign, Slash, SlashAssign, Star, StarAssign, StructKeyword, SwitchKeyword, Tilde, TypeKeyword, VarKeyword, AndNot as and_not_token, GreaterOrEqual as greater_or_equal_token, LessOrEqual as less_or_equal_token, LogicalAnd as logical_and_token, LogicalOr as logical_or_token, Identifier as name_token, NotEqual as not_equal_token, Number as number_token, Plus as plus_token, RawString as raw_string_token, Rune as rune_token, ShiftLeft as shift_left_token, ShiftRight as shift_right_token, InterpretedString as string_token}
use Rattle.tree.specs.declared.operator.BasicLitKind.TheVariants.{InterpretedString, Number, RawString, Rune}
use Rattle.tree.specs.declared.operator.BinaryOperator.TheVariants.{Add, And, AndNot, Divide, Equal, Greater, GreaterOrEqual, Less, LessOrEqual, LogicalAnd, LogicalOr, Multiply, NotEqual, Or, Remainder, ShiftLeft, ShiftRight, Subtract, Xor}
use Rattle.tree.specs.declared.operator.UnaryOperator.TheVariants.{Address, Complement, Negate, Not, Plus, Receive, Tilde as tilde_operator}
use Rattle.tree.specs.declared.operator.ChanDirection.TheVariants.{Both, Send, Receive as receive_only}
use Rattle.tree.specs.declared.operator.DeclKeyword.TheVariants.{Const, Var, «Type» as type_keyword}
use Rattle.tree.specs.declared.edition.Edition.{Edition}
use Rattle.tree.specs.declared.edition.Edition.TheVariants.{First, Second}
use Rattle.tree.specs.Syntax.{Expression, Statement, SourceFile, array_type, assignment, basic_literal, binary_expression, block_statement, break_statement, call_expression, case_and, channel_type, communication_and, composite_literal, continue_statement, declaration_of, declaration_statement, decrement_statement, defer_statement, define_statement, ellipsis_array_type, embedded_and, empty_statement, expression_and, expression_statement, fields_and, for_statement, function_declaration, function_literal, function_type, general_declaration, go_statement, if_statement, increment_statement, index_expression, interface_type, key_value, labeled_statement, literal_value, map_type, method_and, missing_expression, missing_statement, name_alone_and, named_and, no_case, no_communication, no_expression, no_field, no_parameter, no_spec, no_statement, operator_assignment, parenthesized, present_expression, present_statement, range_assignment, range_definition, return_statement, select_statement, selector_expression, send_statement, signature_of, slice_expression, slice_type, star_expression, statement_and, struct_type, switch_statement, type_and, type_assertion, type_switch_statement, unary_expression, unnamed_and, value_and, instance_expression, element_and, goto_statement, fallthrough_statement}
use Rattle.tree.specs.Depth.{expression_depth, file_depth}
use Rattle.meaning.specs.Cursor.{Cursor, read_in}
use Rattle.meaning.specs.WellFormed.{IsKept}
use Rattle.meaning.specs.Grammar.{as_type, as_expression, form_of, SpellsExpression, SpellsStatement, SpellsFile}
use Rattle.meaning.specs.TreeOfText.{first_place}
use Rattle.meaning.specs.TreeExamples.{Example, Piece, IsSpelledIn, in_edition, begin, expression, type_of, laid_out, doing, from_to, name, node, only, use_of}
use Rattle.meaning.specs.declared.TheConstants.{MOST_DEPTH}
use Rattle.tree_reader.specs.Reader.{readers, read_file}

-- a text, its tokens and the tree that it has
pub record Case (A : Type 0) : Type 0 where
  pub text : List ℕ
  pub pieces : List Piece
  pub tree : A

abbrev pub start_of : {A : Type 0} → Case A → Cursor
start_of c = first_place (laid_out 0 c.pieces)

abbrev pub end_of : {A : Type 0} → Case A → Cursor
end_of c = record { left = []; end = length c.text }

-- the place before the semicolon that stands behind a statement
abbrev pub end_of_statement : Case Statement → Cursor
end_of_statement c = record { left = laid_out (length c.text) ((0, Semicolon, 0) ∷ []); end = length c.text }

-- the most that an example may be deep: less than a file may be, so that it is soon computed
abbrev pub depth : ℕ
depth = 20

-- what holds of each of a list
abbrev pub Each : {A : Type 0} → (A → Type 0) → List A → Type 0
Each P [] = Unit {0}
Each P (x ∷ xs) = P x × Each P xs

-- Computing reads this tree, and so all tokens spell it, and no other, however deep.
pub record IsReadExpression (edition : Edition) (c : Case Expression) : Type 0 where
  pub read : (readers (read_in edition c.text) depth).read_expression false 1 (start_of c) ≡ Some (c.tree, end_of c)
  pub spelled : SpellsExpression (read_in edition c.text) as_expression c.tree (start_of c) (end_of c)
  pub only_tree : (other : Expression)
      → SpellsExpression (read_in edition c.text) as_expression other (start_of c) (end_of c)
      → other ≡ c.tree

-- So it is of types.
pub record IsReadType (edition : Edition) (c : Case Expression) : Type 0 where
  pub read : (readers (read_in edition c.text) depth).read_type (start_of c) ≡ Some (c.tree, end_of c)
  pub spelled : SpellsExpression (read_in edition c.text) as_type c.tree (start_of c) (end_of c)
  pub only_tree : (other : Expression)
      → SpellsExpression (read_in edition c.text) as_type other (start_of c) (end_of c)
      → other ≡ c.tree

-- So it is of statements, each before a semicolon. (`IsKept` leaves out the empty statement, which takes no tokens.)
pub record IsReadStatement (edition : Edition) (c : Case Statement) : Type 0 where
  pub read : (readers (read_in edition c.text) depth).read_statement (start_of c) ≡ Some (c.tree, end_of_statement c)
  pub spelled : SpellsStatement (read_in edition c.text) c.tree (start_of c) (end_of_statement c)
  pub only_tree : (other : Statement)
      → IsKept (form_of other)
      → SpellsStatement (read_in edition c.text) other (start_of c) (end_of_statement c)
      → other ≡ c.tree

-- So it is of files.
pub record IsReadFile (edition : Edition) (c : Case SourceFile) : Type 0 where
  pub read : read_file (read_in edition c.text) (start_of c) ≡ Some (c.tree, end_of c)
  pub spelled : SpellsFile (read_in edition c.text) c.tree (start_of c) (end_of c)
  pub only_tree : (other : SourceFile)
      → SpellsFile (read_in edition c.text) other (start_of c) (end_of c)
      → other ≡ c.tree

-- Computing reads nothing, and so all tokens spell no tree within the limit of depth.
pub record IsNoExpression (edition : Edition) (example : Example) : Type 0 where
  pub read : (readers (in_edition edition example) depth).read_expression false 1 (begin example) ≡ None
  pub none_spelled : (e : Expression) → expression_depth e ≤ depth → IsSpelledIn edition example (expression e) → ⊥

pub record IsNoType (edition : Edition) (example : Example) : Type 0 where
  pub read : (readers (in_edition edition example) depth).read_type (begin example) ≡ None
  pub none_spelled : (t : Expression) → expression_depth t ≤ depth → IsSpelledIn edition example (type_of t) → ⊥

pub record IsNoFile (edition : Edition) (example : Example) : Type 0 where
  pub read : read_file (in_edition edition example) (begin example) ≡ None
  pub none_spelled : (file : SourceFile)
      → file_depth file ≤ MOST_DEPTH
      → IsSpelledIn edition example (λ text. SpellsFile text file)
      → ⊥

-- Expressions.

-- a - b - c
abbrev pub difference_of_difference : Case Expression
difference_of_difference = record {
  text = codes "a - b - c";
  pieces = (0, name_token, 1) ∷ (1, Minus, 1) ∷ (1, name_token, 1) ∷ (1, Minus, 1) ∷ (1, name_token, 1) ∷ [];
  tree =
      node 0 9
      (binary_expression Subtract
      (node 0 5 (binary_expression Subtract (use_of (codes "a") 0) (use_of (codes "b") 4)))
      (use_of (codes "c") 8));
}

-- a || b && c == d
abbrev pub conjunction_in_disjunction : Case Expression
conjunction_in_disjunction = record {
  text = codes "a || b && c == d";
  pieces = (0, name_token, 1) ∷ (1, logical_or_token, 2) ∷ (1, name_token, 1) ∷ (1, logical_and_token, 2)
      ∷ (1, name_token, 1) ∷ (1, EqualEqual, 2) ∷ (1, name_token, 1) ∷ [];
  tree =
      node 0 16
      (binary_expression LogicalOr (use_of (codes "a") 0)
      (node 5 16
      (binary_expression LogicalAnd (use_of (codes "b") 5)
      (node 10 16 (binary_expression Equal (use_of (codes "c") 10) (use_of (codes "d") 15))))));
}

-- a*b + c<<2
abbrev pub product_in_sum : Case Expression
product_in_sum = record {
  text = codes "a*b + c<<2";
  pieces = (0, name_token, 1) ∷ (0, Star, 1) ∷ (0, name_token, 1) ∷ (1, plus_token, 1) ∷ (1, name_token, 1)
      ∷ (0, shift_left_token, 2) ∷ (0, number_token, 1) ∷ [];
  tree =
      node 0 10
      (binary_expression Add
      (node 0 3 (binary_expression Multiply (use_of (codes "a") 0) (use_of (codes "b") 2)))
      (node 6 10 (binary_expression ShiftLeft (use_of (codes "c") 6) (node 9 10 (basic_literal Number)))));
}

-- -a.b
abbrev pub negated_selector : Case Expression
negated_selector = record {
  text = codes "-a.b";
  pieces = (0, Minus, 1) ∷ (0, name_token, 1) ∷ (0, Dot, 1) ∷ (0, name_token, 1) ∷ [];
  tree =
      node 0 4
      (unary_expression Negate (node 1 4 (selector_expression (use_of (codes "a") 1) (name (codes "b") 3))));
}

-- *p.x
abbrev pub star_of_selector : Case Expression
star_of_selector = record {
  text = codes "*p.x";
  pieces = (0, Star, 1) ∷ (0, name_token, 1) ∷ (0, Dot, 1) ∷ (0, name_token, 1) ∷ [];
  tree =
      node 0 4
      (star_expression (node 1 4 (selector_expression (use_of (codes "p") 1) (name (codes "x") 3))));
}

-- &T{}
abbrev pub address_of_literal : Case Expression
address_of_literal = record {
  text = codes "&T{}";
  pieces = (0, Ampersand, 1) ∷ (0, name_token, 1) ∷ (0, LeftBrace, 1) ∷ (0, RightBrace, 1) ∷ [];
  tree =
      node 0 4
      (unary_expression Address (node 1 4 (composite_literal (use_of (codes "T") 1) no_expression)));
}

-- <-c
abbrev pub received : Case Expression
received = record {
  text = codes "<-c";
  pieces = (0, Arrow, 2) ∷ (0, name_token, 1) ∷ [];
  tree = node 0 3 (unary_expression Receive (use_of (codes "c") 2));
}

-- f(1, 'r', "s", `t`)
abbrev pub literals : Case Expression
literals = record {
  text = codes "f(1, 'r', \"s\", `t`)";
  pieces = (0, name_token, 1) ∷ (0, LeftParenthesis, 1) ∷ (0, number_token, 1) ∷ (0, Comma, 1)
      ∷ (1, rune_token, 3) ∷ (0, Comma, 1) ∷ (1, string_token, 3) ∷ (0, Comma, 1) ∷ (1, raw_string_token, 3)
      ∷ (0, RightParenthesis, 1) ∷ [];
  tree =
      node 0 19
      (call_expression (use_of (codes "f") 0)
      (expression_and (node 2 3 (basic_literal Number))
      (expression_and (node 5 8 (basic_literal Rune))
      (expression_and (node 10 13 (basic_literal InterpretedString))
      (only (node 15 18 (basic_literal RawString))))))
      false);
}

-- f(x...,)
abbrev pub call_with_ellipsis : Case Expression
call_with_ellipsis = record {
  text = codes "f(x...,)";
  pieces = (0, name_token, 1) ∷ (0, LeftParenthesis, 1) ∷ (0, name_token, 1) ∷ (0, Ellipsis, 3) ∷ (0, Comma, 1)
      ∷ (0, RightParenthesis, 1) ∷ [];
  tree = node 0 8 (call_expression (use_of (codes "f") 0) (only (use_of (codes "x") 2)) true);
}

-- f()
abbrev pub call_without_arguments : Case Expression
call_without_arguments = record {
  text = codes "f()";
  pieces = (0, name_token, 1) ∷ (0, LeftParenthesis, 1) ∷ (0, RightParenthesis, 1) ∷ [];
  tree = node 0 3 (call_expression (use_of (codes "f") 0) no_expression false);
}

-- f(x)[0].y
abbrev pub index_of_call : Case Expression
index_of_call = record {
  text = codes "f(x)[0].y";
  pieces = (0, name_token, 1) ∷ (0, LeftParenthesis, 1) ∷ (0, name_token, 1) ∷ (0, RightParenthesis, 1)
      ∷ (0, LeftBracket, 1) ∷ (0, number_token, 1) ∷ (0, RightBracket, 1) ∷ (0, Dot, 1) ∷ (0, name_token, 1) ∷ [];
  tree =
      node 0 9
      (selector_expression
      (node 0 7
      (index_expression
      (node 0 4 (call_expression (use_of (codes "f") 0) (only (use_of (codes "x") 2)) false))
      (node 5 6 (basic_literal Number))))
      (name (codes "y") 8));
}

-- s[:]
abbrev pub slice_without_bounds : Case Expression
slice_without_bounds = record {
  text = codes "s[:]";
  pieces = (0, name_token, 1) ∷ (0, LeftBracket, 1) ∷ (0, Colon, 1) ∷ (0, RightBracket, 1) ∷ [];
  tree =
      node 0 4
      (slice_expression (use_of (codes "s") 0) missing_expression missing_expression missing_expression);
}

-- s[i:]
abbrev pub slice_from : Case Expression
slice_from = record {
  text = codes "s[i:]";
  pieces = (0, name_token, 1) ∷ (0, LeftBracket, 1) ∷ (0, name_token, 1) ∷ (0, Colon, 1) ∷ (0, RightBracket, 1)
      ∷ [];
  tree =
      node 0 5
      (slice_expression (use_of (codes "s") 0) (present_expression (use_of (codes "i") 2))
      missing_expression missing_expression);
}

-- s[:j]
abbrev pub slice_to : Case Expression
slice_to = record {
  text = codes "s[:j]";
  pieces = (0, name_token, 1) ∷ (0, LeftBracket, 1) ∷ (0, Colon, 1) ∷ (0, name_token, 1) ∷ (0, RightBracket, 1)
      ∷ [];
  tree =
      node 0 5
      (slice_expression (use_of (codes "s") 0) missing_expression
      (present_expression (use_of (codes "j") 3)) missing_expression);
}

-- s[:j:k]
abbrev pub slice_with_capacity : Case Expression
slice_with_capacity = record {
  text = codes "s[:j:k]";
  pieces = (0, name_token, 1) ∷ (0, LeftBracket, 1) ∷ (0, Colon, 1) ∷ (0, name_token, 1) ∷ (0, Colon, 1)
      ∷ (0, name_token, 1) ∷ (0, RightBracket, 1) ∷ [];
  tree =
      node 0 7
      (slice_expression (use_of (codes "s") 0) missing_expression
      (present_expression (use_of (codes "j") 3)) (present_expression (use_of (codes "k") 5)));
}

-- x.(*T)
abbrev pub assertion : Case Expression
assertion = record {
  text = codes "x.(*T)";
  pieces = (0, name_token, 1) ∷ (0, Dot, 1) ∷ (0, LeftParenthesis, 1) ∷ (0, Star, 1) ∷ (0, name_token, 1)
      ∷ (0, RightParenthesis, 1) ∷ [];
  tree = node 0 6 (type_assertion (use_of (codes "x") 0) (node 3 5 (star_expression (use_of (codes "T") 4))));
}

-- []byte(s)
abbrev pub conversion : Case Expression
conversion = record {
  text = codes "[]byte(s)";
  pieces = (0, LeftBracket, 1) ∷ (0, RightBracket, 1) ∷ (0, name_token, 4) ∷ (0, LeftParenthesis, 1)
      ∷ (0, name_token, 1) ∷ (0, RightParenthesis, 1) ∷ [];
  tree =
      node 0 9
      (call_expression (node 0 6 (slice_type (use_of (codes "byte") 2))) (only (use_of (codes "s") 7)) false);
}

-- (*T)(p)
abbrev pub conversion_to_pointer : Case Expression
conversion_to_pointer = record {
  text = codes "(*T)(p)";
  pieces = (0, LeftParenthesis, 1) ∷ (0, Star, 1) ∷ (0, name_token, 1) ∷ (0, RightParenthesis, 1)
      ∷ (0, LeftParenthesis, 1) ∷ (0, name_token, 1) ∷ (0, RightParenthesis, 1) ∷ [];
  tree =
      node 0 7
      (call_expression (node 0 4 (parenthesized (node 1 3 (star_expression (use_of (codes "T") 2)))))
      (only (use_of (codes "p") 5)) false);
}

-- (func())(x)
abbrev pub conversion_to_function : Case Expression
conversion_to_function = record {
  text = codes "(func())(x)";
  pieces = (0, LeftParenthesis, 1) ∷ (0, FuncKeyword, 4) ∷ (0, LeftParenthesis, 1) ∷ (0, RightParenthesis, 1)
      ∷ (0, RightParenthesis, 1) ∷ (0, LeftParenthesis, 1) ∷ (0, name_token, 1) ∷ (0, RightParenthesis, 1) ∷ [];
  tree =
      node 0 11
      (call_expression
      (node 0 8 (parenthesized (node 1 7 (function_type (signature_of no_parameter no_parameter false)))))
      (only (use_of (codes "x") 9)) false);
}

-- func()(x)
abbrev pub result_and_no_conversion : Case Expression
result_and_no_conversion = record {
  text = codes "func()(x)";
  pieces = (0, FuncKeyword, 4) ∷ (0, LeftParenthesis, 1) ∷ (0, RightParenthesis, 1) ∷ (0, LeftParenthesis, 1)
      ∷ (0, name_token, 1) ∷ (0, RightParenthesis, 1) ∷ [];
  tree =
      node 0 9
      (function_type
      (signature_of no_parameter (unnamed_and false (use_of (codes "x") 7) no_parameter) true));
}

-- *T(p)
abbrev pub star_of_conversion : Case Expression
star_of_conversion = record {
  text = codes "*T(p)";
  pieces = (0, Star, 1) ∷ (0, name_token, 1) ∷ (0, LeftParenthesis, 1) ∷ (0, name_token, 1)
      ∷ (0, RightParenthesis, 1) ∷ [];
  tree =
      node 0 5
      (star_expression
      (node 1 5 (call_expression (use_of (codes "T") 1) (only (use_of (codes "p") 3)) false)));
}

-- <-chan int(c)
abbrev pub received_of_conversion : Case Expression
received_of_conversion = record {
  text = codes "<-chan int(c)";
  pieces = (0, Arrow, 2) ∷ (0, ChanKeyword, 4) ∷ (1, name_token, 3) ∷ (0, LeftParenthesis, 1)
      ∷ (0, name_token, 1) ∷ (0, RightParenthesis, 1) ∷ [];
  tree =
      node 0 13
      (unary_expression Receive
      (node 2 13
      (call_expression (node 2 10 (channel_type Both (use_of (codes "int") 7)))
      (only (use_of (codes "c") 11)) false)));
}

-- func(x int) int { return x }(1)
abbrev pub literal_called_at_once : Case Expression
literal_called_at_once = record {
  text = codes "func(x int) int { return x }(1)";
  pieces = (0, FuncKeyword, 4) ∷ (0, LeftParenthesis, 1) ∷ (0, name_token, 1) ∷ (1, name_token, 3)
      ∷ (0, RightParenthesis, 1) ∷ (1, name_token, 3) ∷ (1, LeftBrace, 1) ∷ (1, ReturnKeyword, 6)
      ∷ (1, name_token, 1) ∷ (1, RightBrace, 1) ∷ (0, LeftParenthesis, 1) ∷ (0, number_token, 1)
      ∷ (0, RightParenthesis, 1) ∷ [];
  tree =
      node 0 31
      (call_expression
      (node 0 28
      (function_literal
      (signature_of (named_and (name (codes "x") 5) false (use_of (codes "int") 7) no_parameter)
      (unnamed_and false (use_of (codes "int") 12) no_parameter) false)
      (statement_and (doing 18 26 (return_statement (only (use_of (codes "x") 25)))) no_statement)
      (from_to 16 28)))
      (only (node 29 30 (basic_literal Number))) false);
}

-- []func(){f}
abbrev pub literal_of_functions : Case Expression
literal_of_functions = record {
  text = codes "[]func(){f}";
  pieces = (0, LeftBracket, 1) ∷ (0, RightBracket, 1) ∷ (0, FuncKeyword, 4) ∷ (0, LeftParenthesis, 1)
      ∷ (0, RightParenthesis, 1) ∷ (0, LeftBrace, 1) ∷ (0, name_token, 1) ∷ (0, RightBrace, 1) ∷ [];
  tree =
      node 0 11
      (composite_literal
      (node 0 8 (slice_type (node 2 8 (function_type (signature_of no_parameter no_parameter false)))))
      (only (use_of (codes "f") 9)));
}

-- p.T{x: 1, y: 2,}
abbrev pub literal_of_package : Case Expression
literal_of_package = record {
  text = codes "p.T{x: 1, y: 2,}";
  pieces = (0, name_token, 1) ∷ (0, Dot, 1) ∷ (0, name_token, 1) ∷ (0, LeftBrace, 1) ∷ (0, name_token, 1)
      ∷ (0, Colon, 1) ∷ (1, number_token, 1) ∷ (0, Comma, 1) ∷ (1, name_token, 1) ∷ (0, Colon, 1)
      ∷ (1, number_token, 1) ∷ (0, Comma, 1) ∷ (0, RightBrace, 1) ∷ [];
  tree =
      node 0 16
      (composite_literal (node 0 3 (selector_expression (use_of (codes "p") 0) (name (codes "T") 2)))
      (expression_and (node 4 8 (key_value (use_of (codes "x") 4) (node 7 8 (basic_literal Number))))
      (only (node 10 14 (key_value (use_of (codes "y") 10) (node 13 14 (basic_literal Number)))))));
}

-- map[K]V{{1}: {2}}
abbrev pub elements_in_braces : Case Expression
elements_in_braces = record {
  text = codes "map[K]V{{1}: {2}}";
  pieces = (0, MapKeyword, 3) ∷ (0, LeftBracket, 1) ∷ (0, name_token, 1) ∷ (0, RightBracket, 1)
      ∷ (0, name_token, 1) ∷ (0, LeftBrace, 1) ∷ (0, LeftBrace, 1) ∷ (0, number_token, 1) ∷ (0, RightBrace, 1)
      ∷ (0, Colon, 1) ∷ (1, LeftBrace, 1) ∷ (0, number_token, 1) ∷ (0, RightBrace, 1) ∷ (0, RightBrace, 1) ∷ [];
  tree =
      node 0 17
      (composite_literal (node 0 7 (map_type (use_of (codes "K") 4) (use_of (codes "V") 6)))
      (only
      (node 8 16
      (key_value (node 8 11 (literal_value (only (node 9 10 (basic_literal Number)))))
      (node 13 16 (literal_value (only (node 14 15 (basic_literal Number)))))))));
}

-- [...]int{0: 1}
abbrev pub array_literal : Case Expression
array_literal = record {
  text = codes "[...]int{0: 1}";
  pieces = (0, LeftBracket, 1) ∷ (0, Ellipsis, 3) ∷ (0, RightBracket, 1) ∷ (0, name_token, 3) ∷ (0, LeftBrace, 1)
      ∷ (0, number_token, 1) ∷ (0, Colon, 1) ∷ (1, number_token, 1) ∷ (0, RightBrace, 1) ∷ [];
  tree =
      node 0 14
      (composite_literal (node 0 8 (ellipsis_array_type (use_of (codes "int") 5)))
      (only (node 9 13 (key_value (node 9 10 (basic_literal Number)) (node 12 13 (basic_literal Number))))));
}

-- a + b | c ^ d - e
abbrev pub sums : Case Expression
sums = record {
  text = codes "a + b | c ^ d - e";
  pieces = (0, name_token, 1) ∷ (1, plus_token, 1) ∷ (1, name_token, 1) ∷ (1, Pipe, 1) ∷ (1, name_token, 1)
      ∷ (1, Caret, 1) ∷ (1, name_token, 1) ∷ (1, Minus, 1) ∷ (1, name_token, 1) ∷ [];
  tree =
      node 0 17
      (binary_expression Subtract
      (node 0 13
      (binary_expression Xor
      (node 0 9
      (binary_expression Or (node 0 5 (binary_expression Add (use_of (codes "a") 0) (use_of (codes "b") 4)))
      (use_of (codes "c") 8)))
      (use_of (codes "d") 12)))
      (use_of (codes "e") 16));
}

-- a * b / c % d << e >> f & g &^ h
abbrev pub products : Case Expression
products = record {
  text = codes "a * b / c % d << e >> f & g &^ h";
  pieces = (0, name_token, 1) ∷ (1, Star, 1) ∷ (1, name_token, 1) ∷ (1, Slash, 1) ∷ (1, name_token, 1)
      ∷ (1, Percent, 1) ∷ (1, name_token, 1) ∷ (1, shift_left_token, 2) ∷ (1, name_token, 1)
      ∷ (1, shift_right_token, 2) ∷ (1, name_token, 1) ∷ (1, Ampersand, 1) ∷ (1, name_token, 1)
      ∷ (1, and_not_token, 2) ∷ (1, name_token, 1) ∷ [];
  tree =
      node 0 32
      (binary_expression AndNot
      (node 0 27
      (binary_expression And
      (node 0 23
      (binary_expression ShiftRight
      (node 0 18
      (binary_expression ShiftLeft
      (node 0 13
      (binary_expression Remainder
      (node 0 9
      (binary_expression Divide
      (node 0 5 (binary_expression Multiply (use_of (codes "a") 0) (use_of (codes "b") 4)))
      (use_of (codes "c") 8)))
      (use_of (codes "d") 12)))
      (use_of (codes "e") 17)))
      (use_of (codes "f") 22)))
      (use_of (codes "g") 26)))
      (use_of (codes "h") 31));
}

-- a != b && c < d || e <= f && g > h || i >= j
abbrev pub comparisons : Case Expression
comparisons = record {
  text = codes "a != b && c < d || e <= f && g > h || i >= j";
  pieces = (0, name_token, 1) ∷ (1, not_equal_token, 2) ∷ (1, name_token, 1) ∷ (1, logical_and_token, 2)
      ∷ (1, name_token, 1) ∷ (1, LessThan, 1) ∷ (1, name_token, 1) ∷ (1, logical_or_token, 2)
      ∷ (1, name_token, 1) ∷ (1, less_or_equal_token, 2) ∷ (1, name_token, 1) ∷ (1, logical_and_token, 2)
      ∷ (1, name_token, 1) ∷ (1, GreaterThan, 1) ∷ (1, name_token, 1) ∷ (1, logical_or_token, 2)
      ∷ (1, name_token, 1) ∷ (1, greater_or_equal_token, 2) ∷ (1, name_token, 1) ∷ [];
  tree =
      node 0 44
      (binary_expression LogicalOr
      (node 0 34
      (binary_expression LogicalOr
      (node 0 15
      (binary_expression LogicalAnd
      (node 0 6 (binary_expression NotEqual (use_of (codes "a") 0) (use_of (codes "b") 5)))
      (node 10 15 (binary_expression Less (use_of (codes "c") 10) (use_of (codes "d") 14)))))
      (node 19 34
      (binary_expression LogicalAnd
      (node 19 25 (binary_expression LessOrEqual (use_of (codes "e") 19) (use_of (codes "f") 24)))
      (node 29 34 (binary_expression Greater (use_of (codes "g") 29) (use_of (codes "h") 33)))))))
      (node 38 44 (binary_expression GreaterOrEqual (use_of (codes "i") 38) (use_of (codes "j") 43))));
}

-- +a == ^-b
abbrev pub signs : Case Expression
signs = record {
  text = codes "+a == ^-b";
  pieces = (0, plus_token, 1) ∷ (0, name_token, 1) ∷ (1, EqualEqual, 2) ∷ (1, Caret, 1) ∷ (0, Minus, 1)
      ∷ (0, name_token, 1) ∷ [];
  tree =
      node 0 9
      (binary_expression Equal (node 0 2 (unary_expression Plus (use_of (codes "a") 1)))
      (node 6 9 (unary_expression Complement (node 7 9 (unary_expression Negate (use_of (codes "b") 8))))));
}

-- !(a && b)
abbrev pub negation_of_brackets : Case Expression
negation_of_brackets = record {
  text = codes "!(a && b)";
  pieces = (0, Bang, 1) ∷ (0, LeftParenthesis, 1) ∷ (0, name_token, 1) ∷ (1, logical_and_token, 2)
      ∷ (1, name_token, 1) ∷ (0, RightParenthesis, 1) ∷ [];
  tree =
      node 0 9
      (unary_expression Not
      (node 1 9
      (parenthesized (node 2 8 (binary_expression LogicalAnd (use_of (codes "a") 2) (use_of (codes "b") 7))))));
}

abbrev pub expressions : List (Case Expression)
expressions =
    difference_of_difference ∷ conjunction_in_disjunction ∷ product_in_sum ∷ negated_selector ∷ star_of_selector
    ∷ address_of_literal ∷ received ∷ literals ∷ call_with_ellipsis ∷ call_without_arguments ∷ index_of_call
    ∷ slice_without_bounds ∷ slice_from ∷ slice_to ∷ slice_with_capacity ∷ assertion ∷ conversion
    ∷ conversion_to_pointer ∷ conversion_to_function ∷ result_and_no_conversion ∷ star_of_conversion
    ∷ received_of_conversion ∷ literal_called_at_once ∷ literal_of_functions ∷ literal_of_package
    ∷ elements_in_braces ∷ array_literal ∷ sums ∷ products ∷ comparisons ∷ signs ∷ negation_of_brackets ∷ []

-- Types.

-- chan <- chan int
abbrev pub sends_channels : Case Expression
sends_channels = record {
  text = codes "chan <- chan int";
  pieces = (0, ChanKeyword, 4) ∷ (1, Arrow, 2) ∷ (1, ChanKeyword, 4) ∷ (1, name_token, 3) ∷ [];
  tree = node 0 16 (channel_type Send (node 8 16 (channel_type Both (use_of (codes "int") 13))));
}

-- chan (<-chan int)
abbrev pub receives_in_brackets : Case Expression
receives_in_brackets = record {
  text = codes "chan (<-chan int)";
  pieces = (0, ChanKeyword, 4) ∷ (1, LeftParenthesis, 1) ∷ (0, Arrow, 2) ∷ (0, ChanKeyword, 4)
      ∷ (1, name_token, 3) ∷ (0, RightParenthesis, 1) ∷ [];
  tree =
      node 0 17
      (channel_type Both
      (node 5 17 (parenthesized (node 6 16 (channel_type receive_only (use_of (codes "int") 13))))));
}

-- <-chan <-chan int
abbrev pub receives_receivers : Case Expression
receives_receivers = record {
  text = codes "<-chan <-chan int";
  pieces = (0, Arrow, 2) ∷ (0, ChanKeyword, 4) ∷ (1, Arrow, 2) ∷ (0, ChanKeyword, 4) ∷ (1, name_token, 3) ∷ [];
  tree =
      node 0 17
      (channel_type receive_only (node 7 17 (channel_type receive_only (use_of (codes "int") 14))));
}

-- map[string][2]*p.T
abbrev pub map_of_arrays : Case Expression
map_of_arrays = record {
  text = codes "map[string][2]*p.T";
  pieces = (0, MapKeyword, 3) ∷ (0, LeftBracket, 1) ∷ (0, name_token, 6) ∷ (0, RightBracket, 1)
      ∷ (0, LeftBracket, 1) ∷ (0, number_token, 1) ∷ (0, RightBracket, 1) ∷ (0, Star, 1) ∷ (0, name_token, 1)
      ∷ (0, Dot, 1) ∷ (0, name_token, 1) ∷ [];
  tree =
      node 0 18
      (map_type (use_of (codes "string") 4)
      (node 11 18
      (array_type (node 12 13 (basic_literal Number))
      (node 14 18
      (star_expression (node 15 18 (selector_expression (use_of (codes "p") 15) (name (codes "T") 17))))))));
}

-- func(a, b T)
abbrev pub names_with_one_type : Case Expression
names_with_one_type = record {
  text = codes "func(a, b T)";
  pieces = (0, FuncKeyword, 4) ∷ (0, LeftParenthesis, 1) ∷ (0, name_token, 1) ∷ (0, Comma, 1)
      ∷ (1, name_token, 1) ∷ (1, name_token, 1) ∷ (0, RightParenthesis, 1) ∷ [];
  tree =
      node 0 12
      (function_type
      (signature_of
      (name_alone_and (name (codes "a") 5)
      (named_and (name (codes "b") 8) false (use_of (codes "T") 10) no_parameter))
      no_parameter false));
}

-- func(a, T)
abbrev pub two_types : Case Expression
two_types = record {
  text = codes "func(a, T)";
  pieces = (0, FuncKeyword, 4) ∷ (0, LeftParenthesis, 1) ∷ (0, name_token, 1) ∷ (0, Comma, 1)
      ∷ (1, name_token, 1) ∷ (0, RightParenthesis, 1) ∷ [];
  tree =
      node 0 10
      (function_type
      (signature_of
      (unnamed_and false (use_of (codes "a") 5) (unnamed_and false (use_of (codes "T") 8) no_parameter))
      no_parameter false));
}

-- func(a int, *T)
abbrev pub named_and_pointer : Case Expression
named_and_pointer = record {
  text = codes "func(a int, *T)";
  pieces = (0, FuncKeyword, 4) ∷ (0, LeftParenthesis, 1) ∷ (0, name_token, 1) ∷ (1, name_token, 3)
      ∷ (0, Comma, 1) ∷ (1, Star, 1) ∷ (0, name_token, 1) ∷ (0, RightParenthesis, 1) ∷ [];
  tree =
      node 0 15
      (function_type
      (signature_of
      (named_and (name (codes "a") 5) false (use_of (codes "int") 7)
      (unnamed_and false (node 12 14 (star_expression (use_of (codes "T") 13))) no_parameter))
      no_parameter false));
}

-- func(a, *T, x int)
abbrev pub pointer_among_names : Case Expression
pointer_among_names = record {
  text = codes "func(a, *T, x int)";
  pieces = (0, FuncKeyword, 4) ∷ (0, LeftParenthesis, 1) ∷ (0, name_token, 1) ∷ (0, Comma, 1) ∷ (1, Star, 1)
      ∷ (0, name_token, 1) ∷ (0, Comma, 1) ∷ (1, name_token, 1) ∷ (1, name_token, 3) ∷ (0, RightParenthesis, 1)
      ∷ [];
  tree =
      node 0 18
      (function_type
      (signature_of
      (name_alone_and (name (codes "a") 5)
      (unnamed_and false (node 8 10 (star_expression (use_of (codes "T") 9)))
      (named_and (name (codes "x") 12) false (use_of (codes "int") 14) no_parameter)))
      no_parameter false));
}

-- func(a int, b ...T,) (x, y T)
abbrev pub variadic : Case Expression
variadic = record {
  text = codes "func(a int, b ...T,) (x, y T)";
  pieces = (0, FuncKeyword, 4) ∷ (0, LeftParenthesis, 1) ∷ (0, name_token, 1) ∷ (1, name_token, 3)
      ∷ (0, Comma, 1) ∷ (1, name_token, 1) ∷ (1, Ellipsis, 3) ∷ (0, name_token, 1) ∷ (0, Comma, 1)
      ∷ (0, RightParenthesis, 1) ∷ (1, LeftParenthesis, 1) ∷ (0, name_token, 1) ∷ (0, Comma, 1)
      ∷ (1, name_token, 1) ∷ (1, name_token, 1) ∷ (0, RightParenthesis, 1) ∷ [];
  tree =
      node 0 29
      (function_type
      (signature_of
      (named_and (name (codes "a") 5) false (use_of (codes "int") 7)
      (named_and (name (codes "b") 12) true (use_of (codes "T") 17) no_parameter))
      (name_alone_and (name (codes "x") 22)
      (named_and (name (codes "y") 25) false (use_of (codes "T") 27) no_parameter))
      true));
}

-- func() func()
abbrev pub one_result : Case Expression
one_result = record {
  text = codes "func() func()";
  pieces = (0, FuncKeyword, 4) ∷ (0, LeftParenthesis, 1) ∷ (0, RightParenthesis, 1) ∷ (1, FuncKeyword, 4)
      ∷ (0, LeftParenthesis, 1) ∷ (0, RightParenthesis, 1) ∷ [];
  tree =
      node 0 13
      (function_type
      (signature_of no_parameter
      (unnamed_and false (node 7 13 (function_type (signature_of no_parameter no_parameter false)))
      no_parameter)
      false));
}

-- struct { a, b int "k"; *p.T; T `k` }
abbrev pub fields_with_tags : Case Expression
fields_with_tags = record {
  text = codes "struct { a, b int \"k\"; *p.T; T `k` }";
  pieces = (0, StructKeyword, 6) ∷ (1, LeftBrace, 1) ∷ (1, name_token, 1) ∷ (0, Comma, 1) ∷ (1, name_token, 1)
      ∷ (1, name_token, 3) ∷ (1, string_token, 3) ∷ (0, Semicolon, 1) ∷ (1, Star, 1) ∷ (0, name_token, 1)
      ∷ (0, Dot, 1) ∷ (0, name_token, 1) ∷ (0, Semicolon, 1) ∷ (1, name_token, 1) ∷ (1, raw_string_token, 3)
      ∷ (1, RightBrace, 1) ∷ [];
  tree =
      node 0 36
      (struct_type
      (fields_and (name (codes "a") 9 ∷ name (codes "b") 12 ∷ []) (use_of (codes "int") 14)
      (Some (from_to 18 21)) (from_to 9 21)
      (embedded_and true
      record { qualifier = Some (name (codes "p") 24); name = name (codes "T") 26; span = from_to 24 27 }
      None (from_to 23 27)
      (embedded_and false record { qualifier = None; name = name (codes "T") 29; span = from_to 29 30 }
      (Some (from_to 31 34)) (from_to 29 34) no_field))));
}

-- interface { M(int) bool; p.I; N() }
abbrev pub methods : Case Expression
methods = record {
  text = codes "interface { M(int) bool; p.I; N() }";
  pieces = (0, InterfaceKeyword, 9) ∷ (1, LeftBrace, 1) ∷ (1, name_token, 1) ∷ (0, LeftParenthesis, 1)
      ∷ (0, name_token, 3) ∷ (0, RightParenthesis, 1) ∷ (1, name_token, 4) ∷ (0, Semicolon, 1)
      ∷ (1, name_token, 1) ∷ (0, Dot, 1) ∷ (0, name_token, 1) ∷ (0, Semicolon, 1) ∷ (1, name_token, 1)
      ∷ (0, LeftParenthesis, 1) ∷ (0, RightParenthesis, 1) ∷ (1, RightBrace, 1) ∷ [];
  tree =
      node 0 35
      (interface_type
      (method_and (name (codes "M") 12)
      (signature_of (unnamed_and false (use_of (codes "int") 14) no_parameter)
      (unnamed_and false (use_of (codes "bool") 19) no_parameter) false)
      (from_to 12 23)
      (embedded_and false
      record { qualifier = Some (name (codes "p") 25); name = name (codes "I") 27; span = from_to 25 28 }
      None (from_to 25 28)
      (method_and (name (codes "N") 30) (signature_of no_parameter no_parameter false) (from_to 30 33)
      no_field))));
}

abbrev pub types : List (Case Expression)
types =
    sends_channels ∷ receives_in_brackets ∷ receives_receivers ∷ map_of_arrays ∷ names_with_one_type ∷ two_types
    ∷ named_and_pointer ∷ pointer_among_names ∷ variadic ∷ one_result ∷ fields_with_tags ∷ methods ∷ []

-- Statements, each before the semicolon that the end of its line inserts.

-- c <- x
abbrev pub sent : Case Statement
sent = record {
  text = codes "c <- x";
  pieces = (0, name_token, 1) ∷ (1, Arrow, 2) ∷ (1, name_token, 1) ∷ (0, Semicolon, 0) ∷ [];
  tree = doing 0 6 (send_statement (use_of (codes "c") 0) (use_of (codes "x") 5));
}

-- x++
abbrev pub incremented : Case Statement
incremented = record {
  text = codes "x++";
  pieces = (0, name_token, 1) ∷ (0, Increment, 2) ∷ (0, Semicolon, 0) ∷ [];
  tree = doing 0 3 (increment_statement (use_of (codes "x") 0));
}

-- x--
abbrev pub decremented : Case Statement
decremented = record {
  text = codes "x--";
  pieces = (0, name_token, 1) ∷ (0, Decrement, 2) ∷ (0, Semicolon, 0) ∷ [];
  tree = doing 0 3 (decrement_statement (use_of (codes "x") 0));
}

-- a, b = b, a
abbrev pub assigned : Case Statement
assigned = record {
  text = codes "a, b = b, a";
  pieces = (0, name_token, 1) ∷ (0, Comma, 1) ∷ (1, name_token, 1) ∷ (1, Assign, 1) ∷ (1, name_token, 1)
      ∷ (0, Comma, 1) ∷ (1, name_token, 1) ∷ (0, Semicolon, 0) ∷ [];
  tree =
      doing 0 11
      (assignment (expression_and (use_of (codes "a") 0) (only (use_of (codes "b") 3)))
      (expression_and (use_of (codes "b") 7) (only (use_of (codes "a") 10))));
}

-- a, b := f()
abbrev pub defined : Case Statement
defined = record {
  text = codes "a, b := f()";
  pieces = (0, name_token, 1) ∷ (0, Comma, 1) ∷ (1, name_token, 1) ∷ (1, Define, 2) ∷ (1, name_token, 1)
      ∷ (0, LeftParenthesis, 1) ∷ (0, RightParenthesis, 1) ∷ (0, Semicolon, 0) ∷ [];
  tree =
      doing 0 11
      (define_statement (name (codes "a") 0 ∷ name (codes "b") 3 ∷ [])
      (only (node 8 11 (call_expression (use_of (codes "f") 8) no_expression false))));
}

-- { a += b; a -= b; a |= b; a ^= b }
abbrev pub assigned_sums : Case Statement
assigned_sums = record {
  text = codes "{ a += b; a -= b; a |= b; a ^= b }";
  pieces = (0, LeftBrace, 1) ∷ (1, name_token, 1) ∷ (1, PlusAssign, 2) ∷ (1, name_token, 1) ∷ (0, Semicolon, 1)
      ∷ (1, name_token, 1) ∷ (1, MinusAssign, 2) ∷ (1, name_token, 1) ∷ (0, Semicolon, 1) ∷ (1, name_token, 1)
      ∷ (1, PipeAssign, 2) ∷ (1, name_token, 1) ∷ (0, Semicolon, 1) ∷ (1, name_token, 1) ∷ (1, CaretAssign, 2)
      ∷ (1, name_token, 1) ∷ (1, RightBrace, 1) ∷ (0, Semicolon, 0) ∷ [];
  tree =
      doing 0 34
      (block_statement
      (statement_and (doing 2 8 (operator_assignment Add (use_of (codes "a") 2) (use_of (codes "b") 7)))
      (statement_and
      (doing 10 16 (operator_assignment Subtract (use_of (codes "a") 10) (use_of (codes "b") 15)))
      (statement_and (doing 18 24 (operator_assignment Or (use_of (codes "a") 18) (use_of (codes "b") 23)))
      (statement_and (doing 26 32 (operator_assignment Xor (use_of (codes "a") 26) (use_of (codes "b") 31)))
      no_statement))))
      (from_to 0 34));
}

-- { a *= b; a /= b; a %= b; a <<= b; a >>= b; a &= b; a &^= b }
abbrev pub assigned_products : Case Statement
assigned_products = record {
  text = codes "{ a *= b; a /= b; a %= b; a <<= b; a >>= b; a &= b; a &^= b }";
  pieces = (0, LeftBrace, 1) ∷ (1, name_token, 1) ∷ (1, StarAssign, 2) ∷ (1, name_token, 1) ∷ (0, Semicolon, 1)
      ∷ (1, name_token, 1) ∷ (1, SlashAssign, 2) ∷ (1, name_token, 1) ∷ (0, Semicolon, 1) ∷ (1, name_token, 1)
      ∷ (1, PercentAssign, 2) ∷ (1, name_token, 1) ∷ (0, Semicolon, 1) ∷ (1, name_token, 1)
      ∷ (1, ShiftLeftAssign, 3) ∷ (1, name_token, 1) ∷ (0, Semicolon, 1) ∷ (1, name_token, 1)
      ∷ (1, ShiftRightAssign, 3) ∷ (1, name_token, 1) ∷ (0, Semicolon, 1) ∷ (1, name_token, 1)
      ∷ (1, AmpersandAssign, 2) ∷ (1, name_token, 1) ∷ (0, Semicolon, 1) ∷ (1, name_token, 1)
      ∷ (1, AndNotAssign, 3) ∷ (1, name_token, 1) ∷ (1, RightBrace, 1) ∷ (0, Semicolon, 0) ∷ [];
  tree =
      doing 0 61
      (block_statement
      (statement_and
      (doing 2 8 (operator_assignment Multiply (use_of (codes "a") 2) (use_of (codes "b") 7)))
      (statement_and
      (doing 10 16 (operator_assignment Divide (use_of (codes "a") 10) (use_of (codes "b") 15)))
      (statement_and
      (doing 18 24 (operator_assignment Remainder (use_of (codes "a") 18) (use_of (codes "b") 23)))
      (statement_and
      (doing 26 33 (operator_assignment ShiftLeft (use_of (codes "a") 26) (use_of (codes "b") 32)))
      (statement_and
      (doing 35 42 (operator_assignment ShiftRight (use_of (codes "a") 35) (use_of (codes "b") 41)))
      (statement_and (doing 44 50 (operator_assignment And (use_of (codes "a") 44) (use_of (codes "b") 49)))
      (statement_and
      (doing 52 59 (operator_assignment AndNot (use_of (codes "a") 52) (use_of (codes "b") 58)))
      no_statement)))))))
      (from_to 0 61));
}

-- go f(x)
abbrev pub started : Case Statement
started = record {
  text = codes "go f(x)";
  pieces = (0, GoKeyword, 2) ∷ (1, name_token, 1) ∷ (0, LeftParenthesis, 1) ∷ (0, name_token, 1)
      ∷ (0, RightParenthesis, 1) ∷ (0, Semicolon, 0) ∷ [];
  tree =
      doing 0 7
      (go_statement (node 3 7 (call_expression (use_of (codes "f") 3) (only (use_of (codes "x") 5)) false)));
}

-- defer cancel()
abbrev pub deferred : Case Statement
deferred = record {
  text = codes "defer cancel()";
  pieces = (0, DeferKeyword, 5) ∷ (1, name_token, 6) ∷ (0, LeftParenthesis, 1) ∷ (0, RightParenthesis, 1)
      ∷ (0, Semicolon, 0) ∷ [];
  tree =
      doing 0 14
      (defer_statement (node 6 14 (call_expression (use_of (codes "cancel") 6) no_expression false)));
}

-- return a, b
abbrev pub returned : Case Statement
returned = record {
  text = codes "return a, b";
  pieces = (0, ReturnKeyword, 6) ∷ (1, name_token, 1) ∷ (0, Comma, 1) ∷ (1, name_token, 1) ∷ (0, Semicolon, 0)
      ∷ [];
  tree = doing 0 11 (return_statement (expression_and (use_of (codes "a") 7) (only (use_of (codes "b") 10))));
}

-- return
abbrev pub returned_nothing : Case Statement
returned_nothing = record {
  text = codes "return";
  pieces = (0, ReturnKeyword, 6) ∷ (0, Semicolon, 0) ∷ [];
  tree = doing 0 6 (return_statement no_expression);
}

-- break L
abbrev pub break_with_label : Case Statement
break_with_label = record {
  text = codes "break L";
  pieces = (0, BreakKeyword, 5) ∷ (1, name_token, 1) ∷ (0, Semicolon, 0) ∷ [];
  tree = doing 0 7 (break_statement (Some (name (codes "L") 6)));
}

-- continue
abbrev pub continued : Case Statement
continued = record {
  text = codes "continue";
  pieces = (0, ContinueKeyword, 8) ∷ (0, Semicolon, 0) ∷ [];
  tree = doing 0 8 (continue_statement None);
}

-- if x == (T{}) {}
abbrev pub condition_with_brackets : Case Statement
condition_with_brackets = record {
  text = codes "if x == (T{}) {}";
  pieces = (0, IfKeyword, 2) ∷ (1, name_token, 1) ∷ (1, EqualEqual, 2) ∷ (1, LeftParenthesis, 1)
      ∷ (0, name_token, 1) ∷ (0, LeftBrace, 1) ∷ (0, RightBrace, 1) ∷ (0, RightParenthesis, 1)
      ∷ (1, LeftBrace, 1) ∷ (0, RightBrace, 1) ∷ (0, Semicolon, 0) ∷ [];
  tree =
      doing 0 16
      (if_statement missing_statement false
      (node 3 13
      (binary_expression Equal (use_of (codes "x") 3)
      (node 8 13 (parenthesized (node 9 12 (composite_literal (use_of (codes "T") 9) no_expression))))))
      no_statement (from_to 14 16) missing_statement);
}

-- if []T{{}} == x {}
abbrev pub condition_with_slice : Case Statement
condition_with_slice = record {
  text = codes "if []T{{}} == x {}";
  pieces = (0, IfKeyword, 2) ∷ (1, LeftBracket, 1) ∷ (0, RightBracket, 1) ∷ (0, name_token, 1)
      ∷ (0, LeftBrace, 1) ∷ (0, LeftBrace, 1) ∷ (0, RightBrace, 1) ∷ (0, RightBrace, 1) ∷ (1, EqualEqual, 2)
      ∷ (1, name_token, 1) ∷ (1, LeftBrace, 1) ∷ (0, RightBrace, 1) ∷ (0, Semicolon, 0) ∷ [];
  tree =
      doing 0 18
      (if_statement missing_statement false
      (node 3 15
      (binary_expression Equal
      (node 3 10
      (composite_literal (node 3 6 (slice_type (use_of (codes "T") 5)))
      (only (node 7 9 (literal_value no_expression)))))
      (use_of (codes "x") 14)))
      no_statement (from_to 16 18) missing_statement);
}

-- if a {} else if b {} else {}
abbrev pub otherwise_if : Case Statement
otherwise_if = record {
  text = codes "if a {} else if b {} else {}";
  pieces = (0, IfKeyword, 2) ∷ (1, name_token, 1) ∷ (1, LeftBrace, 1) ∷ (0, RightBrace, 1) ∷ (1, ElseKeyword, 4)
      ∷ (1, IfKeyword, 2) ∷ (1, name_token, 1) ∷ (1, LeftBrace, 1) ∷ (0, RightBrace, 1) ∷ (1, ElseKeyword, 4)
      ∷ (1, LeftBrace, 1) ∷ (0, RightBrace, 1) ∷ (0, Semicolon, 0) ∷ [];
  tree =
      doing 0 28
      (if_statement missing_statement false (use_of (codes "a") 3) no_statement (from_to 5 7)
      (present_statement
      (doing 13 28
      (if_statement missing_statement false (use_of (codes "b") 16) no_statement (from_to 18 20)
      (present_statement (doing 26 28 (block_statement no_statement (from_to 26 28))))))));
}

-- if x := f(); x {}
abbrev pub condition_after_definition : Case Statement
condition_after_definition = record {
  text = codes "if x := f(); x {}";
  pieces = (0, IfKeyword, 2) ∷ (1, name_token, 1) ∷ (1, Define, 2) ∷ (1, name_token, 1) ∷ (0, LeftParenthesis, 1)
      ∷ (0, RightParenthesis, 1) ∷ (0, Semicolon, 1) ∷ (1, name_token, 1) ∷ (1, LeftBrace, 1)
      ∷ (0, RightBrace, 1) ∷ (0, Semicolon, 0) ∷ [];
  tree =
      doing 0 17
      (if_statement
      (present_statement
      (doing 3 11
      (define_statement (name (codes "x") 3 ∷ [])
      (only (node 8 11 (call_expression (use_of (codes "f") 8) no_expression false))))))
      true (use_of (codes "x") 13) no_statement (from_to 15 17) missing_statement);
}

-- for {}
abbrev pub loop_without_header : Case Statement
loop_without_header = record {
  text = codes "for {}";
  pieces = (0, ForKeyword, 3) ∷ (1, LeftBrace, 1) ∷ (0, RightBrace, 1) ∷ (0, Semicolon, 0) ∷ [];
  tree =
      doing 0 6
      (for_statement missing_statement missing_expression missing_statement false no_statement (from_to 4 6));
}

-- for a {}
abbrev pub loop_while : Case Statement
loop_while = record {
  text = codes "for a {}";
  pieces = (0, ForKeyword, 3) ∷ (1, name_token, 1) ∷ (1, LeftBrace, 1) ∷ (0, RightBrace, 1) ∷ (0, Semicolon, 0)
      ∷ [];
  tree =
      doing 0 8
      (for_statement missing_statement (present_expression (use_of (codes "a") 4)) missing_statement false
      no_statement (from_to 6 8));
}

-- for ;; {}
abbrev pub loop_of_semicolons : Case Statement
loop_of_semicolons = record {
  text = codes "for ;; {}";
  pieces = (0, ForKeyword, 3) ∷ (1, Semicolon, 1) ∷ (0, Semicolon, 1) ∷ (1, LeftBrace, 1) ∷ (0, RightBrace, 1)
      ∷ (0, Semicolon, 0) ∷ [];
  tree =
      doing 0 9
      (for_statement missing_statement missing_expression missing_statement true no_statement (from_to 7 9));
}

-- for i := 0; i < n; i++ {}
abbrev pub loop_that_counts : Case Statement
loop_that_counts = record {
  text = codes "for i := 0; i < n; i++ {}";
  pieces = (0, ForKeyword, 3) ∷ (1, name_token, 1) ∷ (1, Define, 2) ∷ (1, number_token, 1) ∷ (0, Semicolon, 1)
      ∷ (1, name_token, 1) ∷ (1, LessThan, 1) ∷ (1, name_token, 1) ∷ (0, Semicolon, 1) ∷ (1, name_token, 1)
      ∷ (0, Increment, 2) ∷ (1, LeftBrace, 1) ∷ (0, RightBrace, 1) ∷ (0, Semicolon, 0) ∷ [];
  tree =
      doing 0 25
      (for_statement
      (present_statement
      (doing 4 10 (define_statement (name (codes "i") 4 ∷ []) (only (node 9 10 (basic_literal Number))))))
      (present_expression
      (node 12 17 (binary_expression Less (use_of (codes "i") 12) (use_of (codes "n") 16))))
      (present_statement (doing 19 22 (increment_statement (use_of (codes "i") 19)))) true no_statement
      (from_to 23 25));
}

-- for range c {}
abbrev pub range_alone : Case Statement
range_alone = record {
  text = codes "for range c {}";
  pieces = (0, ForKeyword, 3) ∷ (1, RangeKeyword, 5) ∷ (1, name_token, 1) ∷ (1, LeftBrace, 1)
      ∷ (0, RightBrace, 1) ∷ (0, Semicolon, 0) ∷ [];
  tree = doing 0 14 (range_assignment no_expression (use_of (codes "c") 10) no_statement (from_to 12 14));
}

-- for k, v := range m {}
abbrev pub range_defined : Case Statement
range_defined = record {
  text = codes "for k, v := range m {}";
  pieces = (0, ForKeyword, 3) ∷ (1, name_token, 1) ∷ (0, Comma, 1) ∷ (1, name_token, 1) ∷ (1, Define, 2)
      ∷ (1, RangeKeyword, 5) ∷ (1, name_token, 1) ∷ (1, LeftBrace, 1) ∷ (0, RightBrace, 1) ∷ (0, Semicolon, 0)
      ∷ [];
  tree =
      doing 0 22
      (range_definition (name (codes "k") 4 ∷ name (codes "v") 7 ∷ []) (use_of (codes "m") 18) no_statement
      (from_to 20 22));
}

-- for a[0] = range m {}
abbrev pub range_assigned : Case Statement
range_assigned = record {
  text = codes "for a[0] = range m {}";
  pieces = (0, ForKeyword, 3) ∷ (1, name_token, 1) ∷ (0, LeftBracket, 1) ∷ (0, number_token, 1)
      ∷ (0, RightBracket, 1) ∷ (1, Assign, 1) ∷ (1, RangeKeyword, 5) ∷ (1, name_token, 1) ∷ (1, LeftBrace, 1)
      ∷ (0, RightBrace, 1) ∷ (0, Semicolon, 0) ∷ [];
  tree =
      doing 0 21
      (range_assignment
      (only (node 4 8 (index_expression (use_of (codes "a") 4) (node 6 7 (basic_literal Number)))))
      (use_of (codes "m") 17) no_statement (from_to 19 21));
}

-- switch x.(type) { case int: }
abbrev pub type_switch : Case Statement
type_switch = record {
  text = codes "switch x.(type) { case int: }";
  pieces = (0, SwitchKeyword, 6) ∷ (1, name_token, 1) ∷ (0, Dot, 1) ∷ (0, LeftParenthesis, 1)
      ∷ (0, TypeKeyword, 4) ∷ (0, RightParenthesis, 1) ∷ (1, LeftBrace, 1) ∷ (1, CaseKeyword, 4)
      ∷ (1, name_token, 3) ∷ (0, Colon, 1) ∷ (1, RightBrace, 1) ∷ (0, Semicolon, 0) ∷ [];
  tree =
      doing 0 29
      (type_switch_statement missing_statement false None (use_of (codes "x") 7)
      (case_and (only (use_of (codes "int") 23)) no_statement (from_to 18 27) no_case));
}

-- switch y := x.(type) {}
abbrev pub type_switch_with_name : Case Statement
type_switch_with_name = record {
  text = codes "switch y := x.(type) {}";
  pieces = (0, SwitchKeyword, 6) ∷ (1, name_token, 1) ∷ (1, Define, 2) ∷ (1, name_token, 1) ∷ (0, Dot, 1)
      ∷ (0, LeftParenthesis, 1) ∷ (0, TypeKeyword, 4) ∷ (0, RightParenthesis, 1) ∷ (1, LeftBrace, 1)
      ∷ (0, RightBrace, 1) ∷ (0, Semicolon, 0) ∷ [];
  tree =
      doing 0 23
      (type_switch_statement missing_statement false (Some (name (codes "y") 7)) (use_of (codes "x") 12)
      no_case);
}

-- switch v := f(); y := v.(type) {}
abbrev pub type_switch_after_definition : Case Statement
type_switch_after_definition = record {
  text = codes "switch v := f(); y := v.(type) {}";
  pieces = (0, SwitchKeyword, 6) ∷ (1, name_token, 1) ∷ (1, Define, 2) ∷ (1, name_token, 1)
      ∷ (0, LeftParenthesis, 1) ∷ (0, RightParenthesis, 1) ∷ (0, Semicolon, 1) ∷ (1, name_token, 1)
      ∷ (1, Define, 2) ∷ (1, name_token, 1) ∷ (0, Dot, 1) ∷ (0, LeftParenthesis, 1) ∷ (0, TypeKeyword, 4)
      ∷ (0, RightParenthesis, 1) ∷ (1, LeftBrace, 1) ∷ (0, RightBrace, 1) ∷ (0, Semicolon, 0) ∷ [];
  tree =
      doing 0 33
      (type_switch_statement
      (present_statement
      (doing 7 15
      (define_statement (name (codes "v") 7 ∷ [])
      (only (node 12 15 (call_expression (use_of (codes "f") 12) no_expression false))))))
      true (Some (name (codes "y") 17)) (use_of (codes "v") 22) no_case);
}

-- switch { case a, b: f(); default: }
abbrev pub switch_without_tag : Case Statement
switch_without_tag = record {
  text = codes "switch { case a, b: f(); default: }";
  pieces = (0, SwitchKeyword, 6) ∷ (1, LeftBrace, 1) ∷ (1, CaseKeyword, 4) ∷ (1, name_token, 1) ∷ (0, Comma, 1)
      ∷ (1, name_token, 1) ∷ (0, Colon, 1) ∷ (1, name_token, 1) ∷ (0, LeftParenthesis, 1)
      ∷ (0, RightParenthesis, 1) ∷ (0, Semicolon, 1) ∷ (1, DefaultKeyword, 7) ∷ (0, Colon, 1)
      ∷ (1, RightBrace, 1) ∷ (0, Semicolon, 0) ∷ [];
  tree =
      doing 0 35
      (switch_statement missing_statement false missing_expression
      (case_and (expression_and (use_of (codes "a") 14) (only (use_of (codes "b") 17)))
      (statement_and
      (doing 20 23
      (expression_statement (node 20 23 (call_expression (use_of (codes "f") 20) no_expression false))))
      no_statement)
      (from_to 9 23) (case_and no_expression no_statement (from_to 25 33) no_case)));
}

-- switch x { default: default: }
abbrev pub two_defaults : Case Statement
two_defaults = record {
  text = codes "switch x { default: default: }";
  pieces = (0, SwitchKeyword, 6) ∷ (1, name_token, 1) ∷ (1, LeftBrace, 1) ∷ (1, DefaultKeyword, 7)
      ∷ (0, Colon, 1) ∷ (1, DefaultKeyword, 7) ∷ (0, Colon, 1) ∷ (1, RightBrace, 1) ∷ (0, Semicolon, 0) ∷ [];
  tree =
      doing 0 30
      (switch_statement missing_statement false (present_expression (use_of (codes "x") 7))
      (case_and no_expression no_statement (from_to 11 19)
      (case_and no_expression no_statement (from_to 20 28) no_case)));
}

-- select {}
abbrev pub select_of_nothing : Case Statement
select_of_nothing = record {
  text = codes "select {}";
  pieces = (0, SelectKeyword, 6) ∷ (1, LeftBrace, 1) ∷ (0, RightBrace, 1) ∷ (0, Semicolon, 0) ∷ [];
  tree = doing 0 9 (select_statement no_communication);
}

-- select { case c <- x: case y := <-d: default: }
abbrev pub select_of_all : Case Statement
select_of_all = record {
  text = codes "select { case c <- x: case y := <-d: default: }";
  pieces = (0, SelectKeyword, 6) ∷ (1, LeftBrace, 1) ∷ (1, CaseKeyword, 4) ∷ (1, name_token, 1) ∷ (1, Arrow, 2)
      ∷ (1, name_token, 1) ∷ (0, Colon, 1) ∷ (1, CaseKeyword, 4) ∷ (1, name_token, 1) ∷ (1, Define, 2)
      ∷ (1, Arrow, 2) ∷ (0, name_token, 1) ∷ (0, Colon, 1) ∷ (1, DefaultKeyword, 7) ∷ (0, Colon, 1)
      ∷ (1, RightBrace, 1) ∷ (0, Semicolon, 0) ∷ [];
  tree =
      doing 0 47
      (select_statement
      (communication_and
      (present_statement (doing 14 20 (send_statement (use_of (codes "c") 14) (use_of (codes "x") 19))))
      no_statement (from_to 9 21)
      (communication_and
      (present_statement
      (doing 27 35
      (define_statement (name (codes "y") 27 ∷ [])
      (only (node 32 35 (unary_expression Receive (use_of (codes "d") 34)))))))
      no_statement (from_to 22 36)
      (communication_and missing_statement no_statement (from_to 37 45) no_communication))));
}

-- { L: }
abbrev pub label_before_brace : Case Statement
label_before_brace = record {
  text = codes "{ L: }";
  pieces = (0, LeftBrace, 1) ∷ (1, name_token, 1) ∷ (0, Colon, 1) ∷ (1, RightBrace, 1) ∷ (0, Semicolon, 0) ∷ [];
  tree =
      doing 0 6
      (block_statement
      (statement_and (doing 2 4 (labeled_statement (name (codes "L") 2) (doing 4 4 empty_statement)))
      no_statement)
      (from_to 0 6));
}

-- { L: M: f() }
abbrev pub label_of_label : Case Statement
label_of_label = record {
  text = codes "{ L: M: f() }";
  pieces = (0, LeftBrace, 1) ∷ (1, name_token, 1) ∷ (0, Colon, 1) ∷ (1, name_token, 1) ∷ (0, Colon, 1)
      ∷ (1, name_token, 1) ∷ (0, LeftParenthesis, 1) ∷ (0, RightParenthesis, 1) ∷ (1, RightBrace, 1)
      ∷ (0, Semicolon, 0) ∷ [];
  tree =
      doing 0 13
      (block_statement
      (statement_and
      (doing 2 11
      (labeled_statement (name (codes "L") 2)
      (doing 5 11
      (labeled_statement (name (codes "M") 5)
      (doing 8 11
      (expression_statement (node 8 11 (call_expression (use_of (codes "f") 8) no_expression false))))))))
      no_statement)
      (from_to 0 13));
}

-- { ;; f(); ; }
abbrev pub empty_statements : Case Statement
empty_statements = record {
  text = codes "{ ;; f(); ; }";
  pieces = (0, LeftBrace, 1) ∷ (1, Semicolon, 1) ∷ (0, Semicolon, 1) ∷ (1, name_token, 1)
      ∷ (0, LeftParenthesis, 1) ∷ (0, RightParenthesis, 1) ∷ (0, Semicolon, 1) ∷ (1, Semicolon, 1)
      ∷ (1, RightBrace, 1) ∷ (0, Semicolon, 0) ∷ [];
  tree =
      doing 0 13
      (block_statement
      (statement_and
      (doing 5 8
      (expression_statement (node 5 8 (call_expression (use_of (codes "f") 5) no_expression false))))
      no_statement)
      (from_to 0 13));
}

-- { {} }
abbrev pub block_in_block : Case Statement
block_in_block = record {
  text = codes "{ {} }";
  pieces = (0, LeftBrace, 1) ∷ (1, LeftBrace, 1) ∷ (0, RightBrace, 1) ∷ (1, RightBrace, 1) ∷ (0, Semicolon, 0)
      ∷ [];
  tree =
      doing 0 6
      (block_statement (statement_and (doing 2 4 (block_statement no_statement (from_to 2 4))) no_statement)
      (from_to 0 6));
}

-- const ( a = 1; b )
abbrev pub constants_in_group : Case Statement
constants_in_group = record {
  text = codes "const ( a = 1; b )";
  pieces = (0, ConstKeyword, 5) ∷ (1, LeftParenthesis, 1) ∷ (1, name_token, 1) ∷ (1, Assign, 1)
      ∷ (1, number_token, 1) ∷ (0, Semicolon, 1) ∷ (1, name_token, 1) ∷ (1, RightParenthesis, 1)
      ∷ (0, Semicolon, 0) ∷ [];
  tree =
      doing 0 18
      (declaration_statement
      (declaration_of Const
      (value_and (name (codes "a") 8 ∷ []) missing_expression (only (node 12 13 (basic_literal Number)))
      (from_to 8 13)
      (value_and (name (codes "b") 15 ∷ []) missing_expression no_expression (from_to 15 16) no_spec))
      true (from_to 0 18)));
}

-- const a int = 1
abbrev pub constant_with_type : Case Statement
constant_with_type = record {
  text = codes "const a int = 1";
  pieces = (0, ConstKeyword, 5) ∷ (1, name_token, 1) ∷ (1, name_token, 3) ∷ (1, Assign, 1) ∷ (1, number_token, 1)
      ∷ (0, Semicolon, 0) ∷ [];
  tree =
      doing 0 15
      (declaration_statement
      (declaration_of Const
      (value_and (name (codes "a") 6 ∷ []) (present_expression (use_of (codes "int") 8))
      (only (node 14 15 (basic_literal Number))) (from_to 6 15) no_spec)
      false (from_to 0 15)));
}

-- var a, b T
abbrev pub variable_without_value : Case Statement
variable_without_value = record {
  text = codes "var a, b T";
  pieces = (0, VarKeyword, 3) ∷ (1, name_token, 1) ∷ (0, Comma, 1) ∷ (1, name_token, 1) ∷ (1, name_token, 1)
      ∷ (0, Semicolon, 0) ∷ [];
  tree =
      doing 0 10
      (declaration_statement
      (declaration_of Var
      (value_and (name (codes "a") 4 ∷ name (codes "b") 7 ∷ []) (present_expression (use_of (codes "T") 9))
      no_expression (from_to 4 10) no_spec)
      false (from_to 0 10)));
}

-- type ( T int; U = T )
abbrev pub types_in_group : Case Statement
types_in_group = record {
  text = codes "type ( T int; U = T )";
  pieces = (0, TypeKeyword, 4) ∷ (1, LeftParenthesis, 1) ∷ (1, name_token, 1) ∷ (1, name_token, 3)
      ∷ (0, Semicolon, 1) ∷ (1, name_token, 1) ∷ (1, Assign, 1) ∷ (1, name_token, 1) ∷ (1, RightParenthesis, 1)
      ∷ (0, Semicolon, 0) ∷ [];
  tree =
      doing 0 21
      (declaration_statement
      (declaration_of type_keyword
      (type_and (name (codes "T") 7) no_parameter false (use_of (codes "int") 9) (from_to 7 12)
      (type_and (name (codes "U") 14) no_parameter true (use_of (codes "T") 18) (from_to 14 19) no_spec))
      true (from_to 0 21)));
}

abbrev pub statements : List (Case Statement)
statements =
    sent ∷ incremented ∷ decremented ∷ assigned ∷ defined ∷ assigned_sums ∷ assigned_products ∷ started
    ∷ deferred ∷ returned ∷ returned_nothing ∷ break_with_label ∷ continued ∷ condition_with_brackets
    ∷ condition_with_slice ∷ otherwise_if ∷ condition_after_definition ∷ loop_without_header ∷ loop_while
    ∷ loop_of_semicolons ∷ loop_that_counts ∷ range_alone ∷ range_defined ∷ range_assigned ∷ type_switch
    ∷ type_switch_with_name ∷ type_switch_after_definition ∷ switch_without_tag ∷ two_defaults
    ∷ select_of_nothing ∷ select_of_all ∷ label_before_brace ∷ label_of_label ∷ empty_statements ∷ block_in_block
    ∷ constants_in_group ∷ constant_with_type ∷ variable_without_value ∷ types_in_group ∷ []

-- Files, with the semicolons that the ends of lines insert.

-- package p
abbrev pub no_declaration : Case SourceFile
no_declaration = record {
  text = codes "package p";
  pieces = (0, PackageKeyword, 7) ∷ (1, name_token, 1) ∷ (0, Semicolon, 0) ∷ [];
  tree = record { package_name = name (codes "p") 8; imports = []; declarations = []; span = from_to 0 9 };
}

-- package p; func (t *T) M() {}
abbrev pub method_with_receiver : Case SourceFile
method_with_receiver = record {
  text = codes "package p; func (t *T) M() {}";
  pieces = (0, PackageKeyword, 7) ∷ (1, name_token, 1) ∷ (0, Semicolon, 1) ∷ (1, FuncKeyword, 4)
      ∷ (1, LeftParenthesis, 1) ∷ (0, name_token, 1) ∷ (1, Star, 1) ∷ (0, name_token, 1)
      ∷ (0, RightParenthesis, 1) ∷ (1, name_token, 1) ∷ (0, LeftParenthesis, 1) ∷ (0, RightParenthesis, 1)
      ∷ (1, LeftBrace, 1) ∷ (0, RightBrace, 1) ∷ (0, Semicolon, 0) ∷ [];
  tree =
      record {
        package_name = name (codes "p") 8;
        imports = [];
        declarations = (function_declaration
            record {
              receiver = Some
                  (named_and (name (codes "t") 17) false (node 19 21 (star_expression (use_of (codes "T") 20)))
                  no_parameter);
              name = name (codes "M") 23;
              type_parameters = no_parameter;
              signature = signature_of no_parameter no_parameter false;
              body = Some record { statements = no_statement; braces = from_to 27 29 };
              span = from_to 11 29;
            }) ∷ [];
        span = from_to 0 29;
      };
}

-- package p; func f(int) string
abbrev pub function_without_body : Case SourceFile
function_without_body = record {
  text = codes "package p; func f(int) string";
  pieces = (0, PackageKeyword, 7) ∷ (1, name_token, 1) ∷ (0, Semicolon, 1) ∷ (1, FuncKeyword, 4)
      ∷ (1, name_token, 1) ∷ (0, LeftParenthesis, 1) ∷ (0, name_token, 3) ∷ (0, RightParenthesis, 1)
      ∷ (1, name_token, 6) ∷ (0, Semicolon, 0) ∷ [];
  tree =
      record {
        package_name = name (codes "p") 8;
        imports = [];
        declarations = (function_declaration
            record {
              receiver = None;
              name = name (codes "f") 16;
              type_parameters = no_parameter;
              signature = signature_of (unnamed_and false (use_of (codes "int") 18) no_parameter)
                  (unnamed_and false (use_of (codes "string") 23) no_parameter) false;
              body = None;
              span = from_to 11 29;
            }) ∷ [];
        span = from_to 0 29;
      };
}

-- package p
-- import c "context"
-- func f() {}
-- func g() { f() }
abbrev pub whole_file : Case SourceFile
whole_file = record {
  text = codes "package p\nimport c \"context\"\nfunc f() {}\nfunc g() { f() }";
  pieces = (0, PackageKeyword, 7) ∷ (1, name_token, 1) ∷ (0, Semicolon, 0) ∷ (1, ImportKeyword, 6)
      ∷ (1, name_token, 1) ∷ (1, string_token, 9) ∷ (0, Semicolon, 0) ∷ (1, FuncKeyword, 4) ∷ (1, name_token, 1)
      ∷ (0, LeftParenthesis, 1) ∷ (0, RightParenthesis, 1) ∷ (1, LeftBrace, 1) ∷ (0, RightBrace, 1)
      ∷ (0, Semicolon, 0) ∷ (1, FuncKeyword, 4) ∷ (1, name_token, 1) ∷ (0, LeftParenthesis, 1)
      ∷ (0, RightParenthesis, 1) ∷ (1, LeftBrace, 1) ∷ (1, name_token, 1) ∷ (0, LeftParenthesis, 1)
      ∷ (0, RightParenthesis, 1) ∷ (1, RightBrace, 1) ∷ (0, Semicolon, 0) ∷ [];
  tree =
      record {
        package_name = name (codes "p") 8;
        imports = record {
          specs = record {
            name = Some (name (codes "c") 17);
            path = codes "context";
            path_span = from_to 19 28;
            span = from_to 17 28;
          } ∷ [];
          is_grouped = false;
          span = from_to 10 28;
        } ∷ [];
        declarations = (function_declaration
            record {
              receiver = None;
              name = name (codes "f") 34;
              type_parameters = no_parameter;
              signature = signature_of no_parameter no_parameter false;
              body = Some record { statements = no_statement; braces = from_to 38 40 };
              span = from_to 29 40;
            })
            ∷ (function_declaration
            record {
              receiver = None;
              name = name (codes "g") 46;
              type_parameters = no_parameter;
              signature = signature_of no_parameter no_parameter false;
              body = Some
                  record {
                    statements = statement_and
                        (doing 52 55
                        (expression_statement
                        (node 52 55 (call_expression (use_of (codes "f") 52) no_expression false))))
                        no_statement;
                    braces = from_to 50 57;
                  };
              span = from_to 41 57;
            }) ∷ [];
        span = from_to 0 57;
      };
}

-- package p
-- import ( "a"; c "b" )
-- var ( x = 1; y T )
-- type T struct{}
abbrev pub groups : Case SourceFile
groups = record {
  text = codes "package p\nimport ( \"a\"; c \"b\" )\nvar ( x = 1; y T )\ntype T struct{}";
  pieces = (0, PackageKeyword, 7) ∷ (1, name_token, 1) ∷ (0, Semicolon, 0) ∷ (1, ImportKeyword, 6)
      ∷ (1, LeftParenthesis, 1) ∷ (1, string_token, 3) ∷ (0, Semicolon, 1) ∷ (1, name_token, 1)
      ∷ (1, string_token, 3) ∷ (1, RightParenthesis, 1) ∷ (0, Semicolon, 0) ∷ (1, VarKeyword, 3)
      ∷ (1, LeftParenthesis, 1) ∷ (1, name_token, 1) ∷ (1, Assign, 1) ∷ (1, number_token, 1) ∷ (0, Semicolon, 1)
      ∷ (1, name_token, 1) ∷ (1, name_token, 1) ∷ (1, RightParenthesis, 1) ∷ (0, Semicolon, 0)
      ∷ (1, TypeKeyword, 4) ∷ (1, name_token, 1) ∷ (1, StructKeyword, 6) ∷ (0, LeftBrace, 1) ∷ (0, RightBrace, 1)
      ∷ (0, Semicolon, 0) ∷ [];
  tree =
      record {
        package_name = name (codes "p") 8;
        imports = record {
          specs = record { name = None; path = codes "a"; path_span = from_to 19 22; span = from_to 19 22 }
              ∷ record {
                name = Some (name (codes "c") 24);
                path = codes "b";
                path_span = from_to 26 29;
                span = from_to 24 29;
              } ∷ [];
          is_grouped = true;
          span = from_to 10 31;
        } ∷ [];
        declarations = (general_declaration
            (declaration_of Var
            (value_and (name (codes "x") 38 ∷ []) missing_expression
            (only (node 42 43 (basic_literal Number))) (from_to 38 43)
            (value_and (name (codes "y") 45 ∷ []) (present_expression (use_of (codes "T") 47)) no_expression
            (from_to 45 48) no_spec))
            true (from_to 32 50)))
            ∷ (general_declaration
            (declaration_of type_keyword
            (type_and (name (codes "T") 56) no_parameter false (node 58 66 (struct_type no_field)) (from_to 56 66)
            no_spec)
            false (from_to 51 66))) ∷ [];
        span = from_to 0 66;
      };
}

abbrev pub files : List (Case SourceFile)
files =
    no_declaration ∷ method_with_receiver ∷ function_without_body ∷ whole_file ∷ groups ∷ []

-- No expressions. (A function literal around statements lets the end of the tokens end them.)

-- a +
abbrev pub no_right_operand : Example
no_right_operand = record {
  text = codes "a +";
  pieces = (0, name_token, 1) ∷ (1, plus_token, 1) ∷ [];
}

-- f(x y)
abbrev pub no_comma : Example
no_comma = record {
  text = codes "f(x y)";
  pieces = (0, name_token, 1) ∷ (0, LeftParenthesis, 1) ∷ (0, name_token, 1) ∷ (1, name_token, 1)
      ∷ (0, RightParenthesis, 1) ∷ [];
}

-- a[]
abbrev pub no_index : Example
no_index = record {
  text = codes "a[]";
  pieces = (0, name_token, 1) ∷ (0, LeftBracket, 1) ∷ (0, RightBracket, 1) ∷ [];
}

-- a[i:j:]
abbrev pub no_capacity : Example
no_capacity = record {
  text = codes "a[i:j:]";
  pieces = (0, name_token, 1) ∷ (0, LeftBracket, 1) ∷ (0, name_token, 1) ∷ (0, Colon, 1) ∷ (0, name_token, 1)
      ∷ (0, Colon, 1) ∷ (0, RightBracket, 1) ∷ [];
}

-- {a}
abbrev pub braces_alone : Example
braces_alone = record {
  text = codes "{a}";
  pieces = (0, LeftBrace, 1) ∷ (0, name_token, 1) ∷ (0, RightBrace, 1) ∷ [];
}

-- f[A, B]
abbrev pub two_indexes : Example
two_indexes = record {
  text = codes "f[A, B]";
  pieces = (0, name_token, 1) ∷ (0, LeftBracket, 1) ∷ (0, name_token, 1) ∷ (0, Comma, 1) ∷ (1, name_token, 1)
      ∷ (0, RightBracket, 1) ∷ [];
}

-- func() { x.(type) }
abbrev pub guard_outside : Example
guard_outside = record {
  text = codes "func() { x.(type) }";
  pieces = (0, FuncKeyword, 4) ∷ (0, LeftParenthesis, 1) ∷ (0, RightParenthesis, 1) ∷ (1, LeftBrace, 1)
      ∷ (1, name_token, 1) ∷ (0, Dot, 1) ∷ (0, LeftParenthesis, 1) ∷ (0, TypeKeyword, 4)
      ∷ (0, RightParenthesis, 1) ∷ (1, RightBrace, 1) ∷ [];
}

-- func() { if x == T{} {} }
abbrev pub bare_literal_in_header : Example
bare_literal_in_header = record {
  text = codes "func() { if x == T{} {} }";
  pieces = (0, FuncKeyword, 4) ∷ (0, LeftParenthesis, 1) ∷ (0, RightParenthesis, 1) ∷ (1, LeftBrace, 1)
      ∷ (1, IfKeyword, 2) ∷ (1, name_token, 1) ∷ (1, EqualEqual, 2) ∷ (1, name_token, 1) ∷ (0, LeftBrace, 1)
      ∷ (0, RightBrace, 1) ∷ (1, LeftBrace, 1) ∷ (0, RightBrace, 1) ∷ (1, RightBrace, 1) ∷ [];
}

-- func() { go f }
abbrev pub go_without_call : Example
go_without_call = record {
  text = codes "func() { go f }";
  pieces = (0, FuncKeyword, 4) ∷ (0, LeftParenthesis, 1) ∷ (0, RightParenthesis, 1) ∷ (1, LeftBrace, 1)
      ∷ (1, GoKeyword, 2) ∷ (1, name_token, 1) ∷ (1, RightBrace, 1) ∷ [];
}

-- func() { const a int }
abbrev pub constant_without_value : Example
constant_without_value = record {
  text = codes "func() { const a int }";
  pieces = (0, FuncKeyword, 4) ∷ (0, LeftParenthesis, 1) ∷ (0, RightParenthesis, 1) ∷ (1, LeftBrace, 1)
      ∷ (1, ConstKeyword, 5) ∷ (1, name_token, 1) ∷ (1, name_token, 3) ∷ (1, RightBrace, 1) ∷ [];
}

-- func() { if x := f() {} }
abbrev pub definition_as_condition : Example
definition_as_condition = record {
  text = codes "func() { if x := f() {} }";
  pieces = (0, FuncKeyword, 4) ∷ (0, LeftParenthesis, 1) ∷ (0, RightParenthesis, 1) ∷ (1, LeftBrace, 1)
      ∷ (1, IfKeyword, 2) ∷ (1, name_token, 1) ∷ (1, Define, 2) ∷ (1, name_token, 1) ∷ (0, LeftParenthesis, 1)
      ∷ (0, RightParenthesis, 1) ∷ (1, LeftBrace, 1) ∷ (0, RightBrace, 1) ∷ (1, RightBrace, 1) ∷ [];
}

-- func() { select { case x++: } }
abbrev pub increment_as_communication : Example
increment_as_communication = record {
  text = codes "func() { select { case x++: } }";
  pieces = (0, FuncKeyword, 4) ∷ (0, LeftParenthesis, 1) ∷ (0, RightParenthesis, 1) ∷ (1, LeftBrace, 1)
      ∷ (1, SelectKeyword, 6) ∷ (1, LeftBrace, 1) ∷ (1, CaseKeyword, 4) ∷ (1, name_token, 1) ∷ (0, Increment, 2)
      ∷ (0, Colon, 1) ∷ (1, RightBrace, 1) ∷ (1, RightBrace, 1) ∷ [];
}

-- func() { goto L }
abbrev pub jump : Example
jump = record {
  text = codes "func() { goto L }";
  pieces = (0, FuncKeyword, 4) ∷ (0, LeftParenthesis, 1) ∷ (0, RightParenthesis, 1) ∷ (1, LeftBrace, 1)
      ∷ (1, GotoKeyword, 4) ∷ (1, name_token, 1) ∷ (1, RightBrace, 1) ∷ [];
}

-- func() { switch { case a: fallthrough } }
abbrev pub fall_through : Example
fall_through = record {
  text = codes "func() { switch { case a: fallthrough } }";
  pieces = (0, FuncKeyword, 4) ∷ (0, LeftParenthesis, 1) ∷ (0, RightParenthesis, 1) ∷ (1, LeftBrace, 1)
      ∷ (1, SwitchKeyword, 6) ∷ (1, LeftBrace, 1) ∷ (1, CaseKeyword, 4) ∷ (1, name_token, 1) ∷ (0, Colon, 1)
      ∷ (1, FallthroughKeyword, 11) ∷ (1, RightBrace, 1) ∷ (1, RightBrace, 1) ∷ [];
}

-- func() { a b }
abbrev pub no_semicolon : Example
no_semicolon = record {
  text = codes "func() { a b }";
  pieces = (0, FuncKeyword, 4) ∷ (0, LeftParenthesis, 1) ∷ (0, RightParenthesis, 1) ∷ (1, LeftBrace, 1)
      ∷ (1, name_token, 1) ∷ (1, name_token, 1) ∷ (1, RightBrace, 1) ∷ [];
}

abbrev pub not_expressions : List Example
not_expressions =
    no_right_operand ∷ no_comma ∷ no_index ∷ no_capacity ∷ braces_alone ∷ two_indexes ∷ guard_outside
    ∷ bare_literal_in_header ∷ go_without_call ∷ constant_without_value ∷ definition_as_condition
    ∷ increment_as_communication ∷ jump ∷ fall_through ∷ no_semicolon ∷ []

-- No types.

-- func(a int, b)
abbrev pub last_name_without_type : Example
last_name_without_type = record {
  text = codes "func(a int, b)";
  pieces = (0, FuncKeyword, 4) ∷ (0, LeftParenthesis, 1) ∷ (0, name_token, 1) ∷ (1, name_token, 3)
      ∷ (0, Comma, 1) ∷ (1, name_token, 1) ∷ (0, RightParenthesis, 1) ∷ [];
}

-- struct { a, b }
abbrev pub two_embedded : Example
two_embedded = record {
  text = codes "struct { a, b }";
  pieces = (0, StructKeyword, 6) ∷ (1, LeftBrace, 1) ∷ (1, name_token, 1) ∷ (0, Comma, 1) ∷ (1, name_token, 1)
      ∷ (1, RightBrace, 1) ∷ [];
}

-- interface { *T }
abbrev pub embedded_pointer_in_interface : Example
embedded_pointer_in_interface = record {
  text = codes "interface { *T }";
  pieces = (0, InterfaceKeyword, 9) ∷ (1, LeftBrace, 1) ∷ (1, Star, 1) ∷ (0, name_token, 1) ∷ (1, RightBrace, 1)
      ∷ [];
}

-- interface { ~int | string }
abbrev pub union : Example
union = record {
  text = codes "interface { ~int | string }";
  pieces = (0, InterfaceKeyword, 9) ∷ (1, LeftBrace, 1) ∷ (1, Tilde, 1) ∷ (0, name_token, 3) ∷ (1, Pipe, 1)
      ∷ (1, name_token, 6) ∷ (1, RightBrace, 1) ∷ [];
}

abbrev pub not_types : List Example
not_types =
    last_name_without_type ∷ two_embedded ∷ embedded_pointer_in_interface ∷ union ∷ []

-- No files.

-- package p; import . "a"
abbrev pub import_of_all_names : Example
import_of_all_names = record {
  text = codes "package p; import . \"a\"";
  pieces = (0, PackageKeyword, 7) ∷ (1, name_token, 1) ∷ (0, Semicolon, 1) ∷ (1, ImportKeyword, 6) ∷ (1, Dot, 1)
      ∷ (1, string_token, 3) ∷ (0, Semicolon, 0) ∷ [];
}

-- package p; var x T; import "a"
abbrev pub import_after_declaration : Example
import_after_declaration = record {
  text = codes "package p; var x T; import \"a\"";
  pieces = (0, PackageKeyword, 7) ∷ (1, name_token, 1) ∷ (0, Semicolon, 1) ∷ (1, VarKeyword, 3)
      ∷ (1, name_token, 1) ∷ (1, name_token, 1) ∷ (0, Semicolon, 1) ∷ (1, ImportKeyword, 6)
      ∷ (1, string_token, 3) ∷ (0, Semicolon, 0) ∷ [];
}

-- package p; func f[T any]() {}
abbrev pub type_parameters : Example
type_parameters = record {
  text = codes "package p; func f[T any]() {}";
  pieces = (0, PackageKeyword, 7) ∷ (1, name_token, 1) ∷ (0, Semicolon, 1) ∷ (1, FuncKeyword, 4)
      ∷ (1, name_token, 1) ∷ (0, LeftBracket, 1) ∷ (0, name_token, 1) ∷ (1, name_token, 3) ∷ (0, RightBracket, 1)
      ∷ (0, LeftParenthesis, 1) ∷ (0, RightParenthesis, 1) ∷ (1, LeftBrace, 1) ∷ (0, RightBrace, 1)
      ∷ (0, Semicolon, 0) ∷ [];
}

abbrev pub not_files : List Example
not_files =
    import_of_all_names ∷ import_after_declaration ∷ type_parameters ∷ []

-- What the second edition reads beside, or otherwise.

-- x[a, b]
abbrev pub two_arguments : Case Expression
two_arguments = record {
  text = codes "x[a, b]";
  pieces = (0, name_token, 1) ∷ (0, LeftBracket, 1) ∷ (0, name_token, 1) ∷ (0, Comma, 1) ∷ (1, name_token, 1)
      ∷ (0, RightBracket, 1) ∷ [];
  tree =
      node 0 7 (instance_expression (use_of (codes "x") 0) (expression_and (use_of (codes "a") 2)
      (expression_and (use_of (codes "b") 5) no_expression)));
}

-- x[a,]
abbrev pub one_argument_and_comma : Case Expression
one_argument_and_comma = record {
  text = codes "x[a,]";
  pieces = (0, name_token, 1) ∷ (0, LeftBracket, 1) ∷ (0, name_token, 1) ∷ (0, Comma, 1)
      ∷ (0, RightBracket, 1) ∷ [];
  tree =
      node 0 5 (instance_expression (use_of (codes "x") 0) (expression_and (use_of (codes "a") 2) no_expression));
}

-- g[int, []T](1)
abbrev pub called_instance : Case Expression
called_instance = record {
  text = codes "g[int, []T](1)";
  pieces = (0, name_token, 1) ∷ (0, LeftBracket, 1) ∷ (0, name_token, 3) ∷ (0, Comma, 1) ∷ (1, LeftBracket, 1)
      ∷ (0, RightBracket, 1) ∷ (0, name_token, 1) ∷ (0, RightBracket, 1) ∷ (0, LeftParenthesis, 1)
      ∷ (0, number_token, 1) ∷ (0, RightParenthesis, 1) ∷ [];
  tree =
      node 0 14 (call_expression (node 0 11 (instance_expression (use_of (codes "g") 0) (expression_and (use_of
      (codes "int") 2) (expression_and (node 7 10 (slice_type (use_of (codes "T") 9))) no_expression))))
      (expression_and (node 12 13 (basic_literal Number)) no_expression) false);
}

-- T[int]{}
abbrev pub literal_of_instance : Case Expression
literal_of_instance = record {
  text = codes "T[int]{}";
  pieces = (0, name_token, 1) ∷ (0, LeftBracket, 1) ∷ (0, name_token, 3) ∷ (0, RightBracket, 1)
      ∷ (0, LeftBrace, 1) ∷ (0, RightBrace, 1) ∷ [];
  tree =
      node 0 8 (composite_literal (node 0 6 (index_expression (use_of (codes "T") 0) (use_of (codes "int") 2)))
      no_expression);
}

-- []T[i]
abbrev pub slice_of_instances_as_operand : Case Expression
slice_of_instances_as_operand = record {
  text = codes "[]T[i]";
  pieces = (0, LeftBracket, 1) ∷ (0, RightBracket, 1) ∷ (0, name_token, 1) ∷ (0, LeftBracket, 1)
      ∷ (0, name_token, 1) ∷ (0, RightBracket, 1) ∷ [];
  tree =
      node 0 6 (slice_type (node 2 6 (index_expression (use_of (codes "T") 2) (use_of (codes "i") 4))));
}

-- f(w < x, y > (z))
abbrev pub comparisons_in_call : Case Expression
comparisons_in_call = record {
  text = codes "f(w < x, y > (z))";
  pieces = (0, name_token, 1) ∷ (0, LeftParenthesis, 1) ∷ (0, name_token, 1) ∷ (1, LessThan, 1)
      ∷ (1, name_token, 1) ∷ (0, Comma, 1) ∷ (1, name_token, 1) ∷ (1, GreaterThan, 1)
      ∷ (1, LeftParenthesis, 1) ∷ (0, name_token, 1) ∷ (0, RightParenthesis, 1) ∷ (0, RightParenthesis, 1)
      ∷ [];
  tree =
      node 0 17 (call_expression (use_of (codes "f") 0) (expression_and (node 2 7 (binary_expression Less
      (use_of (codes "w") 2) (use_of (codes "x") 6))) (expression_and (node 9 16 (binary_expression Greater
      (use_of (codes "y") 9) (node 13 16 (parenthesized (use_of (codes "z") 14))))) no_expression)) false);
}

-- []T[i]
abbrev pub index_of_slice_type : Case Expression
index_of_slice_type = record {
  text = codes "[]T[i]";
  pieces = (0, LeftBracket, 1) ∷ (0, RightBracket, 1) ∷ (0, name_token, 1) ∷ (0, LeftBracket, 1)
      ∷ (0, name_token, 1) ∷ (0, RightBracket, 1) ∷ [];
  tree =
      node 0 6 (index_expression (node 0 3 (slice_type (use_of (codes "T") 2))) (use_of (codes "i") 4));
}

-- map[T[int]]U[*p.V, W[X]]
abbrev pub map_of_instances : Case Expression
map_of_instances = record {
  text = codes "map[T[int]]U[*p.V, W[X]]";
  pieces = (0, MapKeyword, 3) ∷ (0, LeftBracket, 1) ∷ (0, name_token, 1) ∷ (0, LeftBracket, 1)
      ∷ (0, name_token, 3) ∷ (0, RightBracket, 1) ∷ (0, RightBracket, 1) ∷ (0, name_token, 1)
      ∷ (0, LeftBracket, 1) ∷ (0, Star, 1) ∷ (0, name_token, 1) ∷ (0, Dot, 1) ∷ (0, name_token, 1)
      ∷ (0, Comma, 1) ∷ (1, name_token, 1) ∷ (0, LeftBracket, 1) ∷ (0, name_token, 1) ∷ (0, RightBracket, 1)
      ∷ (0, RightBracket, 1) ∷ [];
  tree =
      node 0 24 (map_type (node 4 10 (index_expression (use_of (codes "T") 4) (use_of (codes "int") 6))) (node
      11 24 (instance_expression (use_of (codes "U") 11) (expression_and (node 13 17 (star_expression (node 14
      17 (selector_expression (use_of (codes "p") 14) (name (codes "V") 16))))) (expression_and (node 19 23
      (index_expression (use_of (codes "W") 19) (use_of (codes "X") 21))) no_expression)))));
}

-- func(a [n]int, T[n])
abbrev pub array_and_instance : Case Expression
array_and_instance = record {
  text = codes "func(a [n]int, T[n])";
  pieces = (0, FuncKeyword, 4) ∷ (0, LeftParenthesis, 1) ∷ (0, name_token, 1) ∷ (1, LeftBracket, 1)
      ∷ (0, name_token, 1) ∷ (0, RightBracket, 1) ∷ (0, name_token, 3) ∷ (0, Comma, 1) ∷ (1, name_token, 1)
      ∷ (0, LeftBracket, 1) ∷ (0, name_token, 1) ∷ (0, RightBracket, 1) ∷ (0, RightParenthesis, 1) ∷ [];
  tree =
      node 0 20 (function_type (signature_of (named_and (name (codes "a") 5) false (node 7 13 (array_type
      (use_of (codes "n") 8) (use_of (codes "int") 10))) (unnamed_and false (node 15 19 (index_expression
      (use_of (codes "T") 15) (use_of (codes "n") 17))) no_parameter)) no_parameter false));
}

-- struct { a [n]int; T[n]; *p.U[n, m] "tag" }
abbrev pub array_and_embedded : Case Expression
array_and_embedded = record {
  text = codes "struct { a [n]int; T[n]; *p.U[n, m] \"tag\" }";
  pieces = (0, StructKeyword, 6) ∷ (1, LeftBrace, 1) ∷ (1, name_token, 1) ∷ (1, LeftBracket, 1)
      ∷ (0, name_token, 1) ∷ (0, RightBracket, 1) ∷ (0, name_token, 3) ∷ (0, Semicolon, 1)
      ∷ (1, name_token, 1) ∷ (0, LeftBracket, 1) ∷ (0, name_token, 1) ∷ (0, RightBracket, 1)
      ∷ (0, Semicolon, 1) ∷ (1, Star, 1) ∷ (0, name_token, 1) ∷ (0, Dot, 1) ∷ (0, name_token, 1)
      ∷ (0, LeftBracket, 1) ∷ (0, name_token, 1) ∷ (0, Comma, 1) ∷ (1, name_token, 1) ∷ (0, RightBracket, 1)
      ∷ (1, string_token, 5) ∷ (1, RightBrace, 1) ∷ [];
  tree =
      node 0 43 (struct_type (fields_and ((name (codes "a") 9) ∷ []) (node 11 17 (array_type (use_of (codes "n")
      12) (use_of (codes "int") 14))) None (from_to 9 17) (element_and false (node 19 23 (index_expression
      (use_of (codes "T") 19) (use_of (codes "n") 21))) None (from_to 19 23) (element_and true (node 26 35
      (instance_expression (node 26 29 (selector_expression (use_of (codes "p") 26) (name (codes "U") 28)))
      (expression_and (use_of (codes "n") 30) (expression_and (use_of (codes "m") 33) no_expression)))) (Some
      (from_to 36 41)) (from_to 25 41) no_field))));
}

-- interface { ~int | T[int]; A; m() }
abbrev pub union_and_name : Case Expression
union_and_name = record {
  text = codes "interface { ~int | T[int]; A; m() }";
  pieces = (0, InterfaceKeyword, 9) ∷ (1, LeftBrace, 1) ∷ (1, Tilde, 1) ∷ (0, name_token, 3) ∷ (1, Pipe, 1)
      ∷ (1, name_token, 1) ∷ (0, LeftBracket, 1) ∷ (0, name_token, 3) ∷ (0, RightBracket, 1)
      ∷ (0, Semicolon, 1) ∷ (1, name_token, 1) ∷ (0, Semicolon, 1) ∷ (1, name_token, 1)
      ∷ (0, LeftParenthesis, 1) ∷ (0, RightParenthesis, 1) ∷ (1, RightBrace, 1) ∷ [];
  tree =
      node 0 35 (interface_type (element_and false (node 12 25 (binary_expression Or (node 12 16
      (unary_expression tilde_operator (use_of (codes "int") 13))) (node 19 25 (index_expression (use_of (codes "T") 19)
      (use_of (codes "int") 21))))) None (from_to 12 25) (embedded_and false record {
        qualifier = None;
        name =
            (name (codes "A") 27);
        span = (from_to 27 28);
      } None (from_to 27 28) (method_and (name (codes "m") 30)
      (signature_of no_parameter no_parameter false) (from_to 30 33) no_field))));
}

-- type T[P, Q any, R comparable] U
abbrev pub parameters_with_one_constraint : Case Statement
parameters_with_one_constraint = record {
  text = codes "type T[P, Q any, R comparable] U";
  pieces = (0, TypeKeyword, 4) ∷ (1, name_token, 1) ∷ (0, LeftBracket, 1) ∷ (0, name_token, 1) ∷ (0, Comma, 1)
      ∷ (1, name_token, 1) ∷ (1, name_token, 3) ∷ (0, Comma, 1) ∷ (1, name_token, 1) ∷ (1, name_token, 10)
      ∷ (0, RightBracket, 1) ∷ (1, name_token, 1) ∷ (0, Semicolon, 0) ∷ [];
  tree =
      doing 0 32 (declaration_statement (declaration_of type_keyword (type_and (name (codes "T") 5)
      (name_alone_and (name (codes "P") 7) (named_and (name (codes "Q") 10) false (use_of (codes "any") 12)
      (named_and (name (codes "R") 17) false (use_of (codes "comparable") 19) no_parameter))) false (use_of
      (codes "U") 31) (from_to 5 32) no_spec) false (from_to 0 32)));
}

-- type T[P any] = U[P]
abbrev pub alias_with_parameter : Case Statement
alias_with_parameter = record {
  text = codes "type T[P any] = U[P]";
  pieces = (0, TypeKeyword, 4) ∷ (1, name_token, 1) ∷ (0, LeftBracket, 1) ∷ (0, name_token, 1)
      ∷ (1, name_token, 3) ∷ (0, RightBracket, 1) ∷ (1, Assign, 1) ∷ (1, name_token, 1) ∷ (0, LeftBracket, 1)
      ∷ (0, name_token, 1) ∷ (0, RightBracket, 1) ∷ (0, Semicolon, 0) ∷ [];
  tree =
      doing 0 20 (declaration_statement (declaration_of type_keyword (type_and (name (codes "T") 5) (named_and
      (name (codes "P") 7) false (use_of (codes "any") 9) no_parameter) true (node 16 20 (index_expression
      (use_of (codes "U") 16) (use_of (codes "P") 18))) (from_to 5 20) no_spec) false (from_to 0 20)));
}

-- type T[P *C] D
abbrev pub product_as_length : Case Statement
product_as_length = record {
  text = codes "type T[P *C] D";
  pieces = (0, TypeKeyword, 4) ∷ (1, name_token, 1) ∷ (0, LeftBracket, 1) ∷ (0, name_token, 1) ∷ (1, Star, 1)
      ∷ (0, name_token, 1) ∷ (0, RightBracket, 1) ∷ (1, name_token, 1) ∷ (0, Semicolon, 0) ∷ [];
  tree =
      doing 0 14 (declaration_statement (declaration_of type_keyword (type_and (name (codes "T") 5) no_parameter
      false (node 6 14 (array_type (node 7 11 (binary_expression Multiply (use_of (codes "P") 7) (use_of (codes
      "C") 10))) (use_of (codes "D") 13))) (from_to 5 14) no_spec) false (from_to 0 14)));
}

-- type T[P (C)] D
abbrev pub call_as_length : Case Statement
call_as_length = record {
  text = codes "type T[P (C)] D";
  pieces = (0, TypeKeyword, 4) ∷ (1, name_token, 1) ∷ (0, LeftBracket, 1) ∷ (0, name_token, 1)
      ∷ (1, LeftParenthesis, 1) ∷ (0, name_token, 1) ∷ (0, RightParenthesis, 1) ∷ (0, RightBracket, 1)
      ∷ (1, name_token, 1) ∷ (0, Semicolon, 0) ∷ [];
  tree =
      doing 0 15 (declaration_statement (declaration_of type_keyword (type_and (name (codes "T") 5) no_parameter
      false (node 6 15 (array_type (node 7 12 (call_expression (use_of (codes "P") 7) (expression_and (use_of
      (codes "C") 10) no_expression) false)) (use_of (codes "D") 14))) (from_to 5 15) no_spec) false (from_to 0
      15)));
}

-- type T[P *C,] D
abbrev pub pointer_and_comma : Case Statement
pointer_and_comma = record {
  text = codes "type T[P *C,] D";
  pieces = (0, TypeKeyword, 4) ∷ (1, name_token, 1) ∷ (0, LeftBracket, 1) ∷ (0, name_token, 1) ∷ (1, Star, 1)
      ∷ (0, name_token, 1) ∷ (0, Comma, 1) ∷ (0, RightBracket, 1) ∷ (1, name_token, 1) ∷ (0, Semicolon, 0)
      ∷ [];
  tree =
      doing 0 15 (declaration_statement (declaration_of type_keyword (type_and (name (codes "T") 5) (named_and
      (name (codes "P") 7) false (node 9 11 (star_expression (use_of (codes "C") 10))) no_parameter) false
      (use_of (codes "D") 14) (from_to 5 15) no_spec) false (from_to 0 15)));
}

-- type T[P *C|~D] E
abbrev pub pointer_or_tilde : Case Statement
pointer_or_tilde = record {
  text = codes "type T[P *C|~D] E";
  pieces = (0, TypeKeyword, 4) ∷ (1, name_token, 1) ∷ (0, LeftBracket, 1) ∷ (0, name_token, 1) ∷ (1, Star, 1)
      ∷ (0, name_token, 1) ∷ (0, Pipe, 1) ∷ (0, Tilde, 1) ∷ (0, name_token, 1) ∷ (0, RightBracket, 1)
      ∷ (1, name_token, 1) ∷ (0, Semicolon, 0) ∷ [];
  tree =
      doing 0 17 (declaration_statement (declaration_of type_keyword (type_and (name (codes "T") 5) (named_and
      (name (codes "P") 7) false (node 9 14 (binary_expression Or (node 9 11 (star_expression (use_of (codes
      "C") 10))) (node 12 14 (unary_expression tilde_operator (use_of (codes "D") 13))))) no_parameter) false (use_of
      (codes "E") 16) (from_to 5 17) no_spec) false (from_to 0 17)));
}

-- type T[P *[]int] D
abbrev pub pointer_to_slice : Case Statement
pointer_to_slice = record {
  text = codes "type T[P *[]int] D";
  pieces = (0, TypeKeyword, 4) ∷ (1, name_token, 1) ∷ (0, LeftBracket, 1) ∷ (0, name_token, 1) ∷ (1, Star, 1)
      ∷ (0, LeftBracket, 1) ∷ (0, RightBracket, 1) ∷ (0, name_token, 3) ∷ (0, RightBracket, 1)
      ∷ (1, name_token, 1) ∷ (0, Semicolon, 0) ∷ [];
  tree =
      doing 0 18 (declaration_statement (declaration_of type_keyword (type_and (name (codes "T") 5) (named_and
      (name (codes "P") 7) false (node 9 15 (star_expression (node 10 15 (slice_type (use_of (codes "int")
      12))))) no_parameter) false (use_of (codes "D") 17) (from_to 5 18) no_spec) false (from_to 0 18)));
}

-- type T[P (func())] D
abbrev pub function_type_in_parentheses : Case Statement
function_type_in_parentheses = record {
  text = codes "type T[P (func())] D";
  pieces = (0, TypeKeyword, 4) ∷ (1, name_token, 1) ∷ (0, LeftBracket, 1) ∷ (0, name_token, 1)
      ∷ (1, LeftParenthesis, 1) ∷ (0, FuncKeyword, 4) ∷ (0, LeftParenthesis, 1) ∷ (0, RightParenthesis, 1)
      ∷ (0, RightParenthesis, 1) ∷ (0, RightBracket, 1) ∷ (1, name_token, 1) ∷ (0, Semicolon, 0) ∷ [];
  tree =
      doing 0 20 (declaration_statement (declaration_of type_keyword (type_and (name (codes "T") 5) (named_and
      (name (codes "P") 7) false (node 9 17 (parenthesized (node 10 16 (function_type (signature_of no_parameter
      no_parameter false))))) no_parameter) false (use_of (codes "D") 19) (from_to 5 20) no_spec) false (from_to
      0 20)));
}

-- type T[P *chan Q|C] D
abbrev pub pointer_to_channel_or_name : Case Statement
pointer_to_channel_or_name = record {
  text = codes "type T[P *chan Q|C] D";
  pieces = (0, TypeKeyword, 4) ∷ (1, name_token, 1) ∷ (0, LeftBracket, 1) ∷ (0, name_token, 1) ∷ (1, Star, 1)
      ∷ (0, ChanKeyword, 4) ∷ (1, name_token, 1) ∷ (0, Pipe, 1) ∷ (0, name_token, 1) ∷ (0, RightBracket, 1)
      ∷ (1, name_token, 1) ∷ (0, Semicolon, 0) ∷ [];
  tree =
      doing 0 21 (declaration_statement (declaration_of type_keyword (type_and (name (codes "T") 5) (named_and
      (name (codes "P") 7) false (node 9 18 (binary_expression Or (node 9 16 (star_expression (node 10 16
      (channel_type Both (use_of (codes "Q") 15))))) (use_of (codes "C") 17))) no_parameter) false (use_of
      (codes "D") 20) (from_to 5 21) no_spec) false (from_to 0 21)));
}

-- type T[P [3]int] D
abbrev pub array_as_constraint : Case Statement
array_as_constraint = record {
  text = codes "type T[P [3]int] D";
  pieces = (0, TypeKeyword, 4) ∷ (1, name_token, 1) ∷ (0, LeftBracket, 1) ∷ (0, name_token, 1)
      ∷ (1, LeftBracket, 1) ∷ (0, number_token, 1) ∷ (0, RightBracket, 1) ∷ (0, name_token, 3)
      ∷ (0, RightBracket, 1) ∷ (1, name_token, 1) ∷ (0, Semicolon, 0) ∷ [];
  tree =
      doing 0 18 (declaration_statement (declaration_of type_keyword (type_and (name (codes "T") 5) (named_and
      (name (codes "P") 7) false (node 9 15 (array_type (node 10 11 (basic_literal Number)) (use_of (codes
      "int") 12))) no_parameter) false (use_of (codes "D") 17) (from_to 5 18) no_spec) false (from_to 0 18)));
}

-- type T[P[3]] D
abbrev pub index_as_length : Case Statement
index_as_length = record {
  text = codes "type T[P[3]] D";
  pieces = (0, TypeKeyword, 4) ∷ (1, name_token, 1) ∷ (0, LeftBracket, 1) ∷ (0, name_token, 1)
      ∷ (0, LeftBracket, 1) ∷ (0, number_token, 1) ∷ (0, RightBracket, 1) ∷ (0, RightBracket, 1)
      ∷ (1, name_token, 1) ∷ (0, Semicolon, 0) ∷ [];
  tree =
      doing 0 14 (declaration_statement (declaration_of type_keyword (type_and (name (codes "T") 5) no_parameter
      false (node 6 14 (array_type (node 7 11 (index_expression (use_of (codes "P") 7) (node 9 10 (basic_literal
      Number)))) (use_of (codes "D") 13))) (from_to 5 14) no_spec) false (from_to 0 14)));
}

-- goto l
abbrev pub jump_to_label : Case Statement
jump_to_label = record {
  text = codes "goto l";
  pieces = (0, GotoKeyword, 4) ∷ (1, name_token, 1) ∷ (0, Semicolon, 0) ∷ [];
  tree =
      doing 0 6 (goto_statement (name (codes "l") 5));
}

-- fallthrough
abbrev pub fall : Case Statement
fall = record {
  text = codes "fallthrough";
  pieces = (0, FallthroughKeyword, 11) ∷ (0, Semicolon, 0) ∷ [];
  tree =
      doing 0 11 fallthrough_statement;
}

-- type T[P *[]int] D
abbrev pub product_of_slice_type : Case Statement
product_of_slice_type = record {
  text = codes "type T[P *[]int] D";
  pieces = (0, TypeKeyword, 4) ∷ (1, name_token, 1) ∷ (0, LeftBracket, 1) ∷ (0, name_token, 1) ∷ (1, Star, 1)
      ∷ (0, LeftBracket, 1) ∷ (0, RightBracket, 1) ∷ (0, name_token, 3) ∷ (0, RightBracket, 1)
      ∷ (1, name_token, 1) ∷ (0, Semicolon, 0) ∷ [];
  tree =
      doing 0 18 (declaration_statement (declaration_of type_keyword (type_and (name (codes "T") 5) no_parameter
      false (node 6 18 (array_type (node 7 15 (binary_expression Multiply (use_of (codes "P") 7) (node 10 15
      (slice_type (use_of (codes "int") 12))))) (use_of (codes "D") 17))) (from_to 5 18) no_spec) false (from_to
      0 18)));
}

-- (a[i + 1]{})
abbrev pub sum_in_brackets_of_literal : Example
sum_in_brackets_of_literal = record {
  text = codes "(a[i + 1]{})";
  pieces = (0, LeftParenthesis, 1) ∷ (0, name_token, 1) ∷ (0, LeftBracket, 1) ∷ (0, name_token, 1)
      ∷ (1, plus_token, 1) ∷ (1, number_token, 1) ∷ (0, RightBracket, 1) ∷ (0, LeftBrace, 1) ∷ (0, RightBrace, 1)
      ∷ (0, RightParenthesis, 1) ∷ [];
}

-- ~y
abbrev pub tilde_in_expression : Example
tilde_in_expression = record {
  text = codes "~y";
  pieces = (0, Tilde, 1) ∷ (0, name_token, 1) ∷ [];
}

-- func() { if x == T[int]{} { } }
abbrev pub literal_of_instance_in_header : Example
literal_of_instance_in_header = record {
  text = codes "func() { if x == T[int]{} { } }";
  pieces = (0, FuncKeyword, 4) ∷ (0, LeftParenthesis, 1) ∷ (0, RightParenthesis, 1) ∷ (1, LeftBrace, 1)
      ∷ (1, IfKeyword, 2) ∷ (1, name_token, 1) ∷ (1, EqualEqual, 2) ∷ (1, name_token, 1) ∷ (0, LeftBracket, 1)
      ∷ (0, name_token, 3) ∷ (0, RightBracket, 1) ∷ (0, LeftBrace, 1) ∷ (0, RightBrace, 1) ∷ (1, LeftBrace, 1)
      ∷ (1, RightBrace, 1) ∷ (1, RightBrace, 1) ∷ [];
}

-- func(T[1 + 2])
abbrev pub sum_as_argument : Example
sum_as_argument = record {
  text = codes "func(T[1 + 2])";
  pieces = (0, FuncKeyword, 4) ∷ (0, LeftParenthesis, 1) ∷ (0, name_token, 1) ∷ (0, LeftBracket, 1)
      ∷ (0, number_token, 1) ∷ (1, plus_token, 1) ∷ (1, number_token, 1) ∷ (0, RightBracket, 1)
      ∷ (0, RightParenthesis, 1) ∷ [];
}

-- func(T[a, b] int)
abbrev pub two_arguments_and_type : Example
two_arguments_and_type = record {
  text = codes "func(T[a, b] int)";
  pieces = (0, FuncKeyword, 4) ∷ (0, LeftParenthesis, 1) ∷ (0, name_token, 1) ∷ (0, LeftBracket, 1)
      ∷ (0, name_token, 1) ∷ (0, Comma, 1) ∷ (1, name_token, 1) ∷ (0, RightBracket, 1) ∷ (1, name_token, 3)
      ∷ (0, RightParenthesis, 1) ∷ [];
}

-- interface { m[P any]() }
abbrev pub parameters_of_element : Example
parameters_of_element = record {
  text = codes "interface { m[P any]() }";
  pieces = (0, InterfaceKeyword, 9) ∷ (1, LeftBrace, 1) ∷ (1, name_token, 1) ∷ (0, LeftBracket, 1)
      ∷ (0, name_token, 1) ∷ (1, name_token, 3) ∷ (0, RightBracket, 1) ∷ (0, LeftParenthesis, 1)
      ∷ (0, RightParenthesis, 1) ∷ (1, RightBrace, 1) ∷ [];
}

-- []T[0]
abbrev pub number_as_argument : Example
number_as_argument = record {
  text = codes "[]T[0]";
  pieces = (0, LeftBracket, 1) ∷ (0, RightBracket, 1) ∷ (0, name_token, 1) ∷ (0, LeftBracket, 1)
      ∷ (0, number_token, 1) ∷ (0, RightBracket, 1) ∷ [];
}

-- package p; func f[P any](x P) {}
abbrev pub function_with_parameters : Case SourceFile
function_with_parameters = record {
  text = codes "package p; func f[P any](x P) {}";
  pieces = (0, PackageKeyword, 7) ∷ (1, name_token, 1) ∷ (0, Semicolon, 1) ∷ (1, FuncKeyword, 4)
      ∷ (1, name_token, 1) ∷ (0, LeftBracket, 1) ∷ (0, name_token, 1) ∷ (1, name_token, 3)
      ∷ (0, RightBracket, 1) ∷ (0, LeftParenthesis, 1) ∷ (0, name_token, 1) ∷ (1, name_token, 1)
      ∷ (0, RightParenthesis, 1) ∷ (1, LeftBrace, 1) ∷ (0, RightBrace, 1) ∷ (0, Semicolon, 0) ∷ [];
  tree =
      record {
        package_name = (name (codes "p") 8);
        imports = [];
        declarations = (function_declaration record {
          receiver = None;
          name = (name (codes "f") 16);
          type_parameters = named_and (name (codes "P") 18) false (use_of (codes "any") 20) no_parameter;
          signature = signature_of (named_and (name (codes "x") 25) false (use_of (codes "P") 27) no_parameter)
              no_parameter false;
          body = Some record { statements = no_statement; braces = (from_to 30 32) };
          span =
              (from_to 11 32);
        }) ∷ [];
        span = (from_to 0 32);
      };
}

-- package p; import . "a"
abbrev pub dot_import : Case SourceFile
dot_import = record {
  text = codes "package p; import . \"a\"";
  pieces = (0, PackageKeyword, 7) ∷ (1, name_token, 1) ∷ (0, Semicolon, 1) ∷ (1, ImportKeyword, 6)
      ∷ (1, Dot, 1) ∷ (1, string_token, 3) ∷ (0, Semicolon, 0) ∷ [];
  tree =
      record {
        package_name = (name (codes "p") 8);
        imports = record {
          specs = record {
            name = Some (name (codes ".") 18);
            path = codes "a";
            path_span =
                (from_to 20 23);
            span = (from_to 18 23);
          } ∷ [];
          is_grouped = false;
          span = (from_to 11 23);
        } ∷ [];
        declarations = [];
        span = (from_to 0 23);
      };
}

-- package p; func (t T) m[P any]() {}
abbrev pub method_with_parameters : Example
method_with_parameters = record {
  text = codes "package p; func (t T) m[P any]() {}";
  pieces = (0, PackageKeyword, 7) ∷ (1, name_token, 1) ∷ (0, Semicolon, 1) ∷ (1, FuncKeyword, 4)
      ∷ (1, LeftParenthesis, 1) ∷ (0, name_token, 1) ∷ (1, name_token, 1) ∷ (0, RightParenthesis, 1)
      ∷ (1, name_token, 1) ∷ (0, LeftBracket, 1) ∷ (0, name_token, 1) ∷ (1, name_token, 3)
      ∷ (0, RightBracket, 1) ∷ (0, LeftParenthesis, 1) ∷ (0, RightParenthesis, 1) ∷ (1, LeftBrace, 1)
      ∷ (0, RightBrace, 1) ∷ (0, Semicolon, 0) ∷ [];
}

-- package p; func f[]() {}
abbrev pub no_type_parameter : Example
no_type_parameter = record {
  text = codes "package p; func f[]() {}";
  pieces = (0, PackageKeyword, 7) ∷ (1, name_token, 1) ∷ (0, Semicolon, 1) ∷ (1, FuncKeyword, 4)
      ∷ (1, name_token, 1) ∷ (0, LeftBracket, 1) ∷ (0, RightBracket, 1) ∷ (0, LeftParenthesis, 1)
      ∷ (0, RightParenthesis, 1) ∷ (1, LeftBrace, 1) ∷ (0, RightBrace, 1) ∷ (0, Semicolon, 0) ∷ [];
}

-- package p; type T[P *C]
abbrev pub length_without_element : Example
length_without_element = record {
  text = codes "package p; type T[P *C]";
  pieces = (0, PackageKeyword, 7) ∷ (1, name_token, 1) ∷ (0, Semicolon, 1) ∷ (1, TypeKeyword, 4)
      ∷ (1, name_token, 1) ∷ (0, LeftBracket, 1) ∷ (0, name_token, 1) ∷ (1, Star, 1) ∷ (0, name_token, 1)
      ∷ (0, RightBracket, 1) ∷ (0, Semicolon, 0) ∷ [];
}

abbrev pub second_expressions : List (Case Expression)
second_expressions =
    two_arguments ∷ one_argument_and_comma ∷ called_instance ∷ literal_of_instance
    ∷ slice_of_instances_as_operand ∷ comparisons_in_call ∷ []

abbrev pub second_types : List (Case Expression)
second_types =
    map_of_instances ∷ array_and_instance ∷ array_and_embedded ∷ union_and_name ∷ []

abbrev pub second_statements : List (Case Statement)
second_statements =
    parameters_with_one_constraint ∷ alias_with_parameter ∷ product_as_length ∷ call_as_length
    ∷ pointer_and_comma ∷ pointer_or_tilde ∷ pointer_to_slice ∷ function_type_in_parentheses
    ∷ pointer_to_channel_or_name ∷ array_as_constraint ∷ index_as_length ∷ jump_to_label ∷ fall ∷ []

abbrev pub second_files : List (Case SourceFile)
second_files =
    function_with_parameters ∷ dot_import ∷ []

abbrev pub first_expressions : List (Case Expression)
first_expressions =
    index_of_slice_type ∷ []

abbrev pub first_statements : List (Case Statement)
first_statements =
    product_of_slice_type ∷ []

abbrev pub no_second_expressions : List Example
no_second_expressions =
    sum_in_brackets_of_literal ∷ tilde_in_expression ∷ literal_of_instance_in_header ∷ []

abbrev pub no_second_types : List Example
no_second_types =
    sum_as_argument ∷ two_arguments_and_type ∷ parameters_of_element ∷ number_as_argument ∷ []

abbrev pub no_second_files : List Example
no_second_files =
    method_with_parameters ∷ no_type_parameter ∷ length_without_element ∷ []

-- All the examples are as computing finds them.
pub record ComputedTrees : Type 0 where
  pub expressions_are_read : Each (IsReadExpression First) expressions
  pub types_are_read : Each (IsReadType First) types
  pub statements_are_read : Each (IsReadStatement First) statements
  pub files_are_read : Each (IsReadFile First) files
  pub no_expression_is_read : Each (IsNoExpression First) not_expressions
  pub no_type_is_read : Each (IsNoType First) not_types
  pub no_file_is_read : Each (IsNoFile First) not_files
  pub second_expressions_are_read : Each (IsReadExpression Second) second_expressions
  pub second_types_are_read : Each (IsReadType Second) second_types
  pub second_statements_are_read : Each (IsReadStatement Second) second_statements
  pub second_files_are_read : Each (IsReadFile Second) second_files
  -- The first edition reads these otherwise.
  pub first_expressions_are_read : Each (IsReadExpression First) first_expressions
  pub first_statements_are_read : Each (IsReadStatement First) first_statements
  pub no_second_expression_is_read : Each (IsNoExpression Second) no_second_expressions
  pub no_second_type_is_read : Each (IsNoType Second) no_second_types
  pub no_second_file_is_read : Each (IsNoFile Second) no_second_files
