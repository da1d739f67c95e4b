-- The tokens of a list of pieces, with the semicolons that the ends of lines insert.
-- A semicolon is inserted after a line's last token if that is an identifier, a literal, `break`, `continue`,
-- `fallthrough`, `return`, `++`, `--`, `)`, `]` or `}`. A line ends at a newline, a line comment, a general comment
-- with a newline in it and at the end of the text. (The Go specification, "Semicolons".)
use Rattle.std.specs.Prelude.{ℕ, ◌+◌, Bool, true, false, if◌then◌else◌, Option, Some, None, List, [], ◌∷◌, ◌++◌}
use Rattle.lexer.specs.declared.token.Token.{Token}
use Rattle.lexer.specs.declared.token.TokenKind.{TokenKind}
use Rattle.lexer.specs.declared.token.TokenKind.TheVariants.{Identifier, Number, InterpretedString, RawString, Rune, BreakKeyword, ContinueKeyword, FallthroughKeyword, ReturnKeyword, Increment, Decrement, RightParenthesis, RightBracket, RightBrace, Semicolon}
use Rattle.lexer.specs.declared.pieces.PieceKind.{PieceKind}
use Rattle.lexer.specs.declared.pieces.PieceKind.TheVariants.{WhiteSpace, Newline, LineComment, GeneralComment, GeneralCommentWithNewline, TokenOf}
use Rattle.lexer.specs.declared.pieces.Piece.{Piece}

abbrev pub ends_statement : TokenKind → Bool
ends_statement Identifier = true
ends_statement Number = true
ends_statement InterpretedString = true
ends_statement RawString = true
ends_statement Rune = true
ends_statement BreakKeyword = true
ends_statement ContinueKeyword = true
ends_statement FallthroughKeyword = true
ends_statement ReturnKeyword = true
ends_statement Increment = true
ends_statement Decrement = true
ends_statement RightParenthesis = true
ends_statement RightBracket = true
ends_statement RightBrace = true
ends_statement _ = false

abbrev pub token : TokenKind → ℕ → ℕ → Token
token kind start end = record { kind = kind; start = start; end = end }

-- the semicolon that is due where a line ends: `due` is the end of a last token that wants one
abbrev pub semicolon : Option ℕ → List Token
semicolon None = []
semicolon (Some end) = token Semicolon end end ∷ []

-- what a piece from `start` to `end` adds to the tokens
abbrev pub tokens_at : PieceKind → ℕ → ℕ → Option ℕ → List Token
tokens_at (TokenOf k) start end due = token k start end ∷ []
tokens_at Newline start end due = semicolon due
tokens_at LineComment start end due = semicolon due
tokens_at GeneralCommentWithNewline start end due = semicolon due
tokens_at WhiteSpace start end due = []
tokens_at GeneralComment start end due = []

-- the semicolon that is due after a piece that ends at `end`
abbrev pub due_after : PieceKind → ℕ → Option ℕ → Option ℕ
due_after (TokenOf k) end due =
    if ends_statement k then Some end
    else None
due_after Newline end due = None
due_after LineComment end due = None
due_after GeneralCommentWithNewline end due = None
due_after WhiteSpace end due = due
due_after GeneralComment end due = due

-- the tokens of the pieces that stand from the offset `at` on, up to the end of the text
unfoldable pub tokens_from : ℕ → Option ℕ → List Piece → List Token
tokens_from at due [] = semicolon due
tokens_from at due (p ∷ ps) =
    tokens_at p.kind at (at + p.size) due ++ tokens_from (at + p.size) (due_after p.kind (at + p.size) due) ps
