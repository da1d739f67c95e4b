-- Pieces of texts, and their tokens with the semicolons that ends of lines insert. Each text stands in a comment above
-- its pieces. (The Go specification, "Semicolons".)
use Rattle.std.specs.Prelude.{ℕ, ◌≡◌, List, [], ◌∷◌, None}
use Rattle.lexer.specs.declared.token.Token.{Token}
use Rattle.lexer.specs.declared.token.TokenKind.TheVariants.{Identifier, ReturnKeyword, LeftParenthesis, RightParenthesis, Comma, Plus, Semicolon}
use Rattle.lexer.specs.declared.pieces.PieceKind.{PieceKind}
use Rattle.lexer.specs.declared.pieces.PieceKind.TheVariants.{WhiteSpace, Newline, LineComment, GeneralComment, GeneralCommentWithNewline, TokenOf}
use Rattle.lexer.specs.declared.pieces.Piece.{Piece}
use Rattle.lexer.specs.Semicolons.{token, tokens_from}

abbrev pub piece : PieceKind → ℕ → Piece
piece kind size = record { kind = kind; size = size }

abbrev pub tokens_of : List Piece → List Token
tokens_of = tokens_from 0 None

-- `return` and a newline, then `x`
abbrev pub return_alone : List Piece
return_alone = piece (TokenOf ReturnKeyword) 6 ∷ piece Newline 1 ∷ piece (TokenOf Identifier) 1 ∷ []

-- `x +`, a newline and `y`, a blank, a comment with no newline in it, and a newline
abbrev pub sum_in_two_lines : List Piece
sum_in_two_lines =
    piece (TokenOf Identifier) 1 ∷ piece WhiteSpace 1 ∷ piece (TokenOf Plus) 1 ∷ piece Newline 1
    ∷ piece (TokenOf Identifier) 1 ∷ piece WhiteSpace 1 ∷ piece GeneralComment 6 ∷ piece Newline 1 ∷ []

-- `f(x,`, a line comment and a newline, `)` and a comment with a newline in it
abbrev pub call_in_two_lines : List Piece
call_in_two_lines =
    piece (TokenOf Identifier) 1 ∷ piece (TokenOf LeftParenthesis) 1 ∷ piece (TokenOf Identifier) 1
    ∷ piece (TokenOf Comma) 1 ∷ piece LineComment 9 ∷ piece Newline 1 ∷ piece (TokenOf RightParenthesis) 1
    ∷ piece GeneralCommentWithNewline 7 ∷ []

pub record LinesEndStatements : Type 0 where
  -- behind `return`, and behind the last name at the end of the text
  pub behind_return : tokens_of return_alone
      ≡ token ReturnKeyword 0 6 ∷ token Semicolon 6 6 ∷ token Identifier 7 8 ∷ token Semicolon 8 8 ∷ []
  -- not behind an operator; a comment in the line changes nothing, and the semicolon stands behind the token
  pub not_behind_an_operator : tokens_of sum_in_two_lines
      ≡ token Identifier 0 1 ∷ token Plus 2 3 ∷ token Identifier 4 5 ∷ token Semicolon 5 5 ∷ []
  -- a line comment ends its line, and so does a comment with a newline in it
  pub behind_comments : tokens_of call_in_two_lines
      ≡ token Identifier 0 1 ∷ token LeftParenthesis 1 2 ∷ token Identifier 2 3 ∷ token Comma 3 4
      ∷ token RightParenthesis 14 15 ∷ token Semicolon 15 15 ∷ []
  pub of_nothing : tokens_of [] ≡ []
