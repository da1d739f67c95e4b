-- Names and literals that stand alone, as most operands do: what comes behind them tells it.
use Rattle.std.specs.Prelude.{Bool, true, false, ◌&&◌, if◌then◌else◌, Option, None}
use Rattle.lexer.specs.declared.token.TokenKind.{TokenKind}
use Rattle.lexer.specs.declared.token.TokenKind.TheVariants.{Identifier, LeftParenthesis, RightParenthesis, LeftBracket, RightBracket, LeftBrace, RightBrace, Comma, Semicolon, Dot, Colon, Assign, Define}
use Rattle.tree.specs.declared.operator.BasicLitKind.{BasicLitKind}
use Rattle.meaning.specs.Cursor.{Cursor, is_next}
use Rattle.tree_reader.specs.Reader.{of_next, literal_kind}
use Rattle.tree_reader.specs.Reading.{stands, behind}

-- no primary expression goes on with such a token, in a header or elsewhere
abbrev pub ends_primary : Bool → TokenKind → Bool
ends_primary header Dot = false
ends_primary header LeftBracket = false
ends_primary header LeftParenthesis = false
ends_primary header LeftBrace = header
ends_primary header kind = true

-- no expression goes on with such a token, in a header or elsewhere
abbrev pub ends_expression : Bool → TokenKind → Bool
ends_expression header RightParenthesis = true
ends_expression header RightBracket = true
ends_expression header RightBrace = true
ends_expression header Comma = true
ends_expression header Semicolon = true
ends_expression header Colon = true
ends_expression header Assign = true
ends_expression header Define = true
ends_expression header LeftBrace = header
ends_expression header kind = false

-- the next token, a name, is a whole primary expression
abbrev pub is_lone_primary : Bool → Cursor → Bool
is_lone_primary header place =
    stands Identifier place && is_next (ends_primary header) (behind place)

-- the next token, a name, is a whole expression
abbrev pub is_lone_expression : Bool → Cursor → Bool
is_lone_expression header place =
    stands Identifier place && is_next (ends_expression header) (behind place)

-- the literal that the next token is, where it is a whole primary expression
abbrev pub lone_primary_literal : Bool → Cursor → Option BasicLitKind
lone_primary_literal header place =
    if is_next (ends_primary header) (behind place) then of_next literal_kind place else None

-- the literal that the next token is, where it is a whole expression
abbrev pub lone_literal : Bool → Cursor → Option BasicLitKind
lone_literal header place =
    if is_next (ends_expression header) (behind place) then of_next literal_kind place else None
