-- The spelling of each keyword and operator.
-- (The Go specification, "Keywords" and "Operators and punctuation".)
use Rattle.std.specs.Prelude.{ℕ, Bool, if◌then◌else◌, List, [], ◌∷◌, map, codes}
use Rattle.std.specs.List.{list_any}
use denote.Enum.Bare.{sameb}
use Rattle.lexer.specs.contracts.token.TokenKind.{the_type}
use Rattle.lexer.specs.declared.keywords.TheConstants.{KEYWORDS}
use Rattle.lexer.specs.declared.token.TokenKind.{TokenKind}
use Rattle.lexer.specs.declared.token.TokenKind.TheVariants.{Plus, Minus, Star, Slash, Percent, Ampersand, Pipe, Caret, ShiftLeft, ShiftRight, AndNot, PlusAssign, MinusAssign, StarAssign, SlashAssign, PercentAssign, AmpersandAssign, PipeAssign, CaretAssign, ShiftLeftAssign, ShiftRightAssign, AndNotAssign, LogicalAnd, LogicalOr, Arrow, Increment, Decrement, EqualEqual, LessThan, GreaterThan, Assign, Bang, Tilde, NotEqual, LessOrEqual, GreaterOrEqual, Define, Ellipsis, LeftParenthesis, RightParenthesis, LeftBracket, RightBracket, LeftBrace, RightBrace, Comma, Semicolon, Dot, Colon}

-- two kinds are the same
unfoldable pub same_kind : TokenKind → TokenKind → Bool
same_kind a b = sameb the_type a b

-- the keywords, each with its kind: the table of the code
abbrev pub keywords : List (List ℕ × TokenKind)
keywords = map (λ row. (row.0.now, row.1)) KEYWORDS

-- the kind is one of the keywords, which no identifier is
unfoldable pub is_keyword : TokenKind → Bool
is_keyword k = list_any (λ row. same_kind row.1 k) keywords

-- the spelling of the kind in these rows
abbrev pub spelling_in : List (List ℕ × TokenKind) → TokenKind → List ℕ
spelling_in [] k = []
spelling_in (row ∷ rows) k =
    if same_kind row.1 k then row.0
    else spelling_in rows k

-- the bytes of a keyword or an operator; identifiers and literals have no one spelling, and here none
unfoldable pub spelling : TokenKind → List ℕ
spelling Plus = codes "+"
spelling Minus = codes "-"
spelling Star = codes "*"
spelling Slash = codes "/"
spelling Percent = codes "%"
spelling Ampersand = codes "&"
spelling Pipe = codes "|"
spelling Caret = codes "^"
spelling ShiftLeft = codes "<<"
spelling ShiftRight = codes ">>"
spelling AndNot = codes "&^"
spelling PlusAssign = codes "+="
spelling MinusAssign = codes "-="
spelling StarAssign = codes "*="
spelling SlashAssign = codes "/="
spelling PercentAssign = codes "%="
spelling AmpersandAssign = codes "&="
spelling PipeAssign = codes "|="
spelling CaretAssign = codes "^="
spelling ShiftLeftAssign = codes "<<="
spelling ShiftRightAssign = codes ">>="
spelling AndNotAssign = codes "&^="
spelling LogicalAnd = codes "&&"
spelling LogicalOr = codes "||"
spelling Arrow = codes "<-"
spelling Increment = codes "++"
spelling Decrement = codes "--"
spelling EqualEqual = codes "=="
spelling LessThan = codes "<"
spelling GreaterThan = codes ">"
spelling Assign = codes "="
spelling Bang = codes "!"
spelling Tilde = codes "~"
spelling NotEqual = codes "!="
spelling LessOrEqual = codes "<="
spelling GreaterOrEqual = codes ">="
spelling Define = codes ":="
spelling Ellipsis = codes "..."
spelling LeftParenthesis = codes "("
spelling RightParenthesis = codes ")"
spelling LeftBracket = codes "["
spelling RightBracket = codes "]"
spelling LeftBrace = codes "{"
spelling RightBrace = codes "}"
spelling Comma = codes ","
spelling Semicolon = codes ";"
spelling Dot = codes "."
spelling Colon = codes ":"
spelling k = spelling_in keywords k
