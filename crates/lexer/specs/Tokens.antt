-- The tokens of a source text: UTF-8 of at most `MOST_BYTES` bytes, 1 MiB, without NUL, cut whole, with inserted
-- semicolons.
-- A byte order mark is skipped at the start of the text alone.
-- (The Go specification, "Source code representation", "Tokens" and "Semicolons".)
use Rattle.std.specs.Prelude.{◌≡◌, ◌≢◌, ℕ, Bool, ◌<◌, ◌≤◌, ◌&&◌, ◌==◌, if◌then◌else◌, None, List, [], length, drop, slice_index}
use Rattle.std.specs.Str.{IsUtf8}
use Rattle.lexer.specs.declared.source.TheConstants.{MOST_BYTES}
use Rattle.lexer.specs.declared.token.Token.{Token}
use Rattle.lexer.specs.Bytes.{nul, mark_first, mark_second, mark_third}
use Rattle.lexer.specs.declared.pieces.Piece.{Piece}
use Rattle.lexer.specs.Cut.{Cut}
use Rattle.lexer.specs.Semicolons.{tokens_from}

-- the text begins with the byte order mark
abbrev pub begins_with_mark : List ℕ → Bool
begins_with_mark text =
    (slice_index text 0 == mark_first && slice_index text 1 == mark_second)
    && slice_index text 2 == mark_third

-- how many bytes the byte order mark at the start of the text takes
abbrev pub mark_size : List ℕ → ℕ
mark_size text =
    if begins_with_mark text then 3
    else 0

-- the whole text, but for its byte order mark, is cut into these pieces
abbrev pub IsCutInto : List ℕ → List Piece → Type 0
IsCutInto text pieces = Cut (drop (mark_size text) text) pieces []

-- the text is cut whole, and these are its tokens
pub record IsTokens (text : List ℕ) (tokens : List Token) : Type 0 where
  pub small : length text ≤ MOST_BYTES
  pub utf8 : IsUtf8 text
  pub no_nul : (i : ℕ) → i < length text → slice_index text i ≢ nul
  pub pieces : List Piece
  pub cut : IsCutInto text pieces
  pub listed : tokens ≡ tokens_from (mark_size text) None pieces

-- a text is cut in one way at most
abbrev pub OneCut : Type 0
OneCut = (text : List ℕ) (ps qs : List Piece) → IsCutInto text ps → IsCutInto text qs → ps ≡ qs

-- a text has at most one list of tokens
abbrev pub OneTokenList : Type 0
OneTokenList = (text : List ℕ) (ts us : List Token) → IsTokens text ts → IsTokens text us → ts ≡ us
