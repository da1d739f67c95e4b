-- How a keyword, an operator or a literal's end is found. The contracts of private functions cite this;
-- that it agrees with `Spelling` and `Pieces` is proved in proofs/.
use Rattle.std.specs.Prelude.{ℕ, ◌+◌, Bool, false, ◌&&◌, ◌||◌, ◌==◌, if◌then◌else◌, Option, Some, None, List, [], ◌∷◌}
use Rattle.std.specs.Str.{bytes_eq}
use Rattle.lexer.specs.declared.token.TokenKind.{TokenKind}
use Rattle.lexer.specs.declared.token.TokenKind.TheVariants.{Ampersand, AmpersandAssign, AndNot, AndNotAssign, Arrow, Assign, Bang, Caret, CaretAssign, Colon, Comma, Decrement, Define, Dot, Ellipsis, EqualEqual, GreaterOrEqual, GreaterThan, Identifier, Increment, LeftBrace, LeftBracket, LeftParenthesis, LessOrEqual, LessThan, LogicalAnd, LogicalOr, Minus, MinusAssign, NotEqual, Percent, PercentAssign, Pipe, PipeAssign, Plus, PlusAssign, RawString, RightBrace, RightBracket, RightParenthesis, Rune, Semicolon, ShiftLeft, ShiftLeftAssign, ShiftRight, ShiftRightAssign, Slash, SlashAssign, Star, StarAssign, InterpretedString, Tilde}
use Rattle.lexer.specs.declared.pieces.PieceKind.TheVariants.{TokenOf}
use Rattle.lexer.specs.declared.pieces.Piece.{Piece}
use Rattle.lexer.specs.Pieces.{breaks, escapes}
use Rattle.lexer.specs.Spelling.{keywords}
use Rattle.lexer.specs.Bytes.{exclamation_mark, double_quote, percent, ampersand, single_quote, left_parenthesis, right_parenthesis, asterisk, plus, comma, minus, period, slash, colon, semicolon, less_than, equals, greater_than, left_bracket, right_bracket, caret, back_quote, left_brace, pipe, right_brace, tilde}

-- the kind of a word: that of the row that spells it, or an identifier
abbrev pub kind_in : List (List ℕ × TokenKind) → List ℕ → TokenKind
kind_in [] word = Identifier
kind_in (row ∷ rows) word =
    if bytes_eq row.0 word then row.1
    else kind_in rows word

unfoldable pub keyword_of : List ℕ → TokenKind
keyword_of = kind_in keywords

abbrev pub token_piece : TokenKind → ℕ → Piece
token_piece k size = record { kind = TokenOf k; size = size }

abbrev pub maybe_assign : ℕ → TokenKind → TokenKind → Piece
maybe_assign next alone assigning =
    if next == equals then token_piece assigning 2
    else token_piece alone 1

abbrev pub maybe_doubled : ℕ → ℕ → TokenKind → TokenKind → TokenKind → Piece
maybe_doubled next twin alone assigning doubled =
    if next == twin then token_piece doubled 2
    else maybe_assign next alone assigning

abbrev pub maybe_third : ℕ → TokenKind → TokenKind → Piece
maybe_third third alone assigning =
    if third == equals then token_piece assigning 3
    else token_piece alone 2

abbrev pub less_operator : ℕ → ℕ → Piece
less_operator second third =
    if second == less_than then maybe_third third ShiftLeft ShiftLeftAssign
    else maybe_doubled second minus LessThan LessOrEqual Arrow

abbrev pub greater_operator : ℕ → ℕ → Piece
greater_operator second third =
    if second == greater_than then maybe_third third ShiftRight ShiftRightAssign
    else maybe_assign second GreaterThan GreaterOrEqual

abbrev pub ampersand_operator : ℕ → ℕ → Piece
ampersand_operator second third =
    if second == caret then maybe_third third AndNot AndNotAssign
    else maybe_doubled second ampersand Ampersand AmpersandAssign LogicalAnd

abbrev pub dot_operator : ℕ → ℕ → Piece
dot_operator second third =
    if second == period && third == period then token_piece Ellipsis 3
    else token_piece Dot 1

-- the longest operator that begins with these three bytes, 0 where the text has ended
unfoldable pub operator_of : ℕ → ℕ → ℕ → Option Piece
operator_of first second third =
    if first == plus then Some (maybe_doubled second plus Plus PlusAssign Increment)
    else if first == minus then Some (maybe_doubled second minus Minus MinusAssign Decrement)
    else if first == asterisk then Some (maybe_assign second Star StarAssign)
    else if first == slash then Some (maybe_assign second Slash SlashAssign)
    else if first == percent then Some (maybe_assign second Percent PercentAssign)
    else if first == ampersand then Some (ampersand_operator second third)
    else if first == pipe then Some (maybe_doubled second pipe Pipe PipeAssign LogicalOr)
    else if first == caret then Some (maybe_assign second Caret CaretAssign)
    else if first == less_than then Some (less_operator second third)
    else if first == greater_than then Some (greater_operator second third)
    else if first == equals then Some (maybe_assign second Assign EqualEqual)
    else if first == exclamation_mark then Some (maybe_assign second Bang NotEqual)
    else if first == colon then Some (maybe_assign second Colon Define)
    else if first == period then Some (dot_operator second third)
    else if first == tilde then Some (token_piece Tilde 1)
    else if first == left_parenthesis then Some (token_piece LeftParenthesis 1)
    else if first == right_parenthesis then Some (token_piece RightParenthesis 1)
    else if first == left_bracket then Some (token_piece LeftBracket 1)
    else if first == right_bracket then Some (token_piece RightBracket 1)
    else if first == left_brace then Some (token_piece LeftBrace 1)
    else if first == right_brace then Some (token_piece RightBrace 1)
    else if first == comma then Some (token_piece Comma 1)
    else if first == semicolon then Some (token_piece Semicolon 1)
    else None

-- the bytes that begin a string, a rune and a raw string
abbrev pub is_quote : ℕ → Bool
is_quote b = (b == double_quote || b == single_quote) || b == back_quote

abbrev pub quote_kind : ℕ → TokenKind
quote_kind b =
    if b == double_quote then InterpretedString
    else if b == single_quote then Rune
    else RawString

-- the size of a literal of which `size` bytes are read and the others come, if it is ended
unfoldable pub closing : ℕ → Bool → ℕ → List ℕ → Option ℕ
closing quote escaped size [] = None
closing quote escaped size (b ∷ bs) =
    if breaks quote b then None
    else if escaped then closing quote false (size + 1) bs
    else if b == quote then Some (size + 1)
    else closing quote (escapes quote b) (size + 1) bs

-- the size of a general comment of which `size` bytes are read and the others come, if it is ended
unfoldable pub comment_end : ℕ → List ℕ → Option ℕ
comment_end size [] = None
comment_end size (b ∷ []) = None
comment_end size (b ∷ c ∷ bs) =
    if b == asterisk && c == slash then Some (size + 2)
    else comment_end (size + 1) (c ∷ bs)
