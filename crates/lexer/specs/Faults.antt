-- Why a text has no tokens, and where. A text has one fault: of several reasons the first in this order.
-- A text that is too long has that fault; else one that is not UTF-8, else one with a NUL; else the cut stops at a
-- place where nothing can begin, and what stands there says whether a string, a rune or a comment is not ended, or
-- whether no token has the character.
-- (The Go specification, "Source code representation" and "Lexical elements".)
use Rattle.std.specs.Prelude.{◌≡◌, ◌≢◌, ℕ, ◌+◌, ◌<◌, ◌≤◌, Bool, ◌||◌, ◌==◌, if◌then◌else◌, IsTrue, IsFalse, List, [], length, drop, slice_index, sum_by}
use Rattle.std.specs.Str.{IsUtf8, IsValidUpTo}
use Rattle.lexer.specs.declared.fault.LexFault.{LexFault}
use Rattle.lexer.specs.declared.fault.LexFault.TheVariants.{NotUtf8, Nul, UnclosedString, UnclosedComment, UnclosedRune, UnknownCharacter, TooLong, OutOfMemory}
use Rattle.lexer.specs.declared.pieces.Piece.{Piece}
use Rattle.lexer.specs.Cut.{CanBegin, Cut, opens_comment}
use Rattle.lexer.specs.declared.source.TheConstants.{MOST_BYTES}
use Rattle.lexer.specs.declared.token.Token.{Token}
use Rattle.lexer.specs.Bytes.{nul, double_quote, single_quote, back_quote}
use Rattle.lexer.specs.Tokens.{mark_size, IsTokens}

-- the text is cut up to the offset `at`, where nothing can begin
pub record StopsAt (text : List ℕ) (at : ℕ) (rest : List ℕ) : Type 0 where
  pub small : length text ≤ MOST_BYTES
  pub utf8 : IsUtf8 text
  pub no_nul : (i : ℕ) → i < length text → slice_index text i ≢ nul
  pub pieces : List Piece
  pub cut : Cut (drop (mark_size text) text) pieces rest
  pub place : at ≡ mark_size text + sum_by (λ p. p.size) pieces
  pub more : rest ≢ []
  pub nothing : (p : Piece) → CanBegin p rest → ⊥

-- what the first byte begins
abbrev pub begins_string : List ℕ → Bool
begins_string rest = slice_index rest 0 == double_quote || slice_index rest 0 == back_quote

abbrev pub begins_rune : List ℕ → Bool
begins_rune rest = slice_index rest 0 == single_quote

-- the fault of a text whose cut stops at `at`
abbrev pub stop_of : List ℕ → ℕ → LexFault
stop_of rest at =
    if begins_string rest then UnclosedString at
    else if begins_rune rest then UnclosedRune at
    else if opens_comment rest then UnclosedComment at
    else UnknownCharacter at

abbrev pub IsFault : List ℕ → LexFault → Type 0
IsFault text TooLong = MOST_BYTES < length text
IsFault text (NotUtf8 at) = (length text ≤ MOST_BYTES) × (at < length text) × IsValidUpTo text at
IsFault text (Nul at) =
    (length text ≤ MOST_BYTES) × IsUtf8 text × (at < length text) × (slice_index text at ≡ nul)
    × ((i : ℕ) → i < at → slice_index text i ≢ nul)
IsFault text (UnclosedString at) = (rest : List ℕ) × StopsAt text at rest × IsTrue (begins_string rest)
IsFault text (UnclosedComment at) = (rest : List ℕ) × StopsAt text at rest × IsTrue (opens_comment rest)
IsFault text (UnclosedRune at) = (rest : List ℕ) × StopsAt text at rest × IsTrue (begins_rune rest)
IsFault text (UnknownCharacter at) =
    (rest : List ℕ) × StopsAt text at rest
    × IsFalse ((begins_string rest || begins_rune rest) || opens_comment rest)
IsFault text OutOfMemory = ⊥

-- a text that has tokens has no fault
abbrev pub OneOutcome : Type 0
OneOutcome = (text : List ℕ) (ts : List Token) (f : LexFault) → IsTokens text ts → IsFault text f → ⊥

-- a text has at most one fault
abbrev pub OneFault : Type 0
OneFault = (text : List ℕ) (f g : LexFault) → IsFault text f → IsFault text g → f ≡ g
