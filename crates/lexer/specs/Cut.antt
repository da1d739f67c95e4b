-- The cut of a text into white space, comments and tokens, from its start.
-- Each piece is the longest that can begin at its place; at `//` and `/*` only a comment can.
-- (The Go specification, "Lexical elements": white space and comments separate tokens, and the next token is the
-- longest sequence of characters that forms a valid one.)
use Rattle.std.specs.Prelude.{◌≡◌, ℕ, ◌≤◌, Bool, true, false, ◌&&◌, ◌||◌, ◌==◌, IsTrue, List, [], ◌∷◌, length, take, drop, slice_index}
use Rattle.lexer.specs.declared.pieces.PieceKind.{PieceKind}
use Rattle.lexer.specs.declared.pieces.PieceKind.TheVariants.{LineComment, GeneralComment, GeneralCommentWithNewline}
use Rattle.lexer.specs.declared.pieces.Piece.{Piece}
use Rattle.lexer.specs.Bytes.{slash, asterisk}
use Rattle.lexer.specs.Pieces.{Reads}

abbrev pub is_comment : PieceKind → Bool
is_comment LineComment = true
is_comment GeneralComment = true
is_comment GeneralCommentWithNewline = true
is_comment _ = false

-- the text begins with `//` or `/*`
abbrev pub opens_comment : List ℕ → Bool
opens_comment text =
    slice_index text 0 == slash && (slice_index text 1 == slash || slice_index text 1 == asterisk)

-- the piece can begin the text
pub record CanBegin (p : Piece) (text : List ℕ) : Type 0 where
  pub within : p.size ≤ length text
  pub reads : Reads p.kind (take p.size text)
  pub only_comment : IsTrue (opens_comment text) → IsTrue (is_comment p.kind)

-- and no longer one can
pub record IsLongest (p : Piece) (text : List ℕ) : Type 0 where
  pub begins : CanBegin p text
  pub longest : (q : Piece) → CanBegin q text → q.size ≤ p.size

-- the text is cut into these pieces, and `rest` is left
unfoldable pub Cut : List ℕ → List Piece → List ℕ → Type 0
Cut text [] rest = text ≡ rest
Cut text (p ∷ ps) rest = IsLongest p text × Cut (drop p.size text) ps rest
