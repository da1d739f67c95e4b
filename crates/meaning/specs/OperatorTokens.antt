-- Which token stands for an operator, and which tokens can follow a type, a signature or a literal as a part of it.
-- (The Go specification, "Operators", "Assignment statements", "Function types".)
use Rattle.std.specs.Prelude.{Bool, true, false}
use Rattle.lexer.specs.declared.token.TokenKind.{TokenKind}
use Rattle.lexer.specs.declared.token.TokenKind.TheVariants.{Identifier, Number as number_token, Rune as rune_token, InterpretedString as interpreted_string_token, RawString as raw_string_token, ConstKeyword, VarKeyword, TypeKeyword, ChanKeyword, FuncKeyword, InterfaceKeyword, MapKeyword, StructKeyword, Plus as plus_token, Minus, Star, Slash, Percent, Ampersand, Pipe, Caret, ShiftLeft as shift_left_token, ShiftRight as shift_right_token, AndNot as and_not_token, PlusAssign, MinusAssign, StarAssign, SlashAssign, PercentAssign, AmpersandAssign, PipeAssign, CaretAssign, ShiftLeftAssign, ShiftRightAssign, AndNotAssign, LogicalAnd as logical_and_token, LogicalOr as logical_or_token, Arrow, EqualEqual, LessThan, GreaterThan, Bang, NotEqual as not_equal_token, LessOrEqual as less_or_equal_token, GreaterOrEqual as greater_or_equal_token, LeftParenthesis, LeftBracket, LeftBrace, Dot, Tilde as tilde_token}
use Rattle.tree.specs.declared.edition.Edition.{Edition}
use Rattle.tree.specs.declared.edition.Edition.TheVariants.{First, Second}
use Rattle.tree.specs.declared.operator.BasicLitKind.{BasicLitKind}
use Rattle.tree.specs.declared.operator.BasicLitKind.TheVariants.{Number, Rune, InterpretedString, RawString}
use Rattle.tree.specs.declared.operator.BinaryOperator.{BinaryOperator}
use Rattle.tree.specs.declared.operator.BinaryOperator.TheVariants.{LogicalOr, LogicalAnd, Equal, NotEqual, Less, LessOrEqual, Greater, GreaterOrEqual, Add, Subtract, Or, Xor, Multiply, Divide, Remainder, ShiftLeft, ShiftRight, And, AndNot}
use Rattle.tree.specs.declared.operator.UnaryOperator.{UnaryOperator}
use Rattle.tree.specs.declared.operator.UnaryOperator.TheVariants.{Plus, Negate, Not, Complement, Address, Receive, Tilde}
use Rattle.tree.specs.declared.operator.DeclKeyword.{DeclKeyword}
use Rattle.tree.specs.declared.operator.DeclKeyword.TheVariants.{Const, Var, «Type» as type_keyword}
use Rattle.meaning.specs.Cursor.{Rule, token, never}

abbrev pub operator_token : BinaryOperator → TokenKind
operator_token LogicalOr = logical_or_token
operator_token LogicalAnd = logical_and_token
operator_token Equal = EqualEqual
operator_token NotEqual = not_equal_token
operator_token Less = LessThan
operator_token LessOrEqual = less_or_equal_token
operator_token Greater = GreaterThan
operator_token GreaterOrEqual = greater_or_equal_token
operator_token Add = plus_token
operator_token Subtract = Minus
operator_token Or = Pipe
operator_token Xor = Caret
operator_token Multiply = Star
operator_token Divide = Slash
operator_token Remainder = Percent
operator_token ShiftLeft = shift_left_token
operator_token ShiftRight = shift_right_token
operator_token And = Ampersand
operator_token AndNot = and_not_token

-- the token of an assignment with an operator; the operators that compare and the logical ones have none
abbrev pub assign_operator : BinaryOperator → Rule
assign_operator Add = token PlusAssign
assign_operator Subtract = token MinusAssign
assign_operator Or = token PipeAssign
assign_operator Xor = token CaretAssign
assign_operator Multiply = token StarAssign
assign_operator Divide = token SlashAssign
assign_operator Remainder = token PercentAssign
assign_operator ShiftLeft = token ShiftLeftAssign
assign_operator ShiftRight = token ShiftRightAssign
assign_operator And = token AmpersandAssign
assign_operator AndNot = token AndNotAssign
assign_operator _ = never

abbrev pub unary_token : UnaryOperator → TokenKind
unary_token Plus = plus_token
unary_token Negate = Minus
unary_token Not = Bang
unary_token Complement = Caret
unary_token Address = Ampersand
unary_token Receive = Arrow
unary_token Tilde = tilde_token

abbrev pub literal_token : BasicLitKind → TokenKind
literal_token Number = number_token
literal_token Rune = rune_token
literal_token InterpretedString = interpreted_string_token
literal_token RawString = raw_string_token

abbrev pub keyword_token : DeclKeyword → TokenKind
keyword_token Const = ConstKeyword
keyword_token Var = VarKeyword
keyword_token type_keyword = TypeKeyword

-- the tokens with which a type can begin, and so a signature's results
abbrev pub can_begin_type : TokenKind → Bool
can_begin_type Identifier = true
can_begin_type Star = true
can_begin_type LeftParenthesis = true
can_begin_type LeftBracket = true
can_begin_type MapKeyword = true
can_begin_type ChanKeyword = true
can_begin_type Arrow = true
can_begin_type FuncKeyword = true
can_begin_type StructKeyword = true
can_begin_type InterfaceKeyword = true
can_begin_type _ = false

-- a dot continues a type's name
abbrev pub is_dot : TokenKind → Bool
is_dot Dot = true
is_dot _ = false

-- a bracket continues a type's name, in the second edition
abbrev pub takes_arguments : Edition → TokenKind → Bool
takes_arguments First kind = false
takes_arguments Second LeftBracket = true
takes_arguments Second kind = false

-- an arrow continues the word `chan`
abbrev pub is_arrow : TokenKind → Bool
is_arrow Arrow = true
is_arrow _ = false

-- a brace continues a literal's type
abbrev pub is_left_brace : TokenKind → Bool
is_left_brace LeftBrace = true
is_left_brace _ = false
