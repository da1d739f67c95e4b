-- How bytes of a text are spelled, what the pieces of a line stand for, and lists that are written one by one.
use Rattle.std.specs.Prelude.{◌≡◌, ℕ, Option, Result, Ok, Err, List, [], ◌∷◌, ◌++◌, Bool, true, false, not, ◌&&◌, ◌==◌, nat_le, flat_map, decimal}
use Rattle.std.specs.Borrow.{Bor}
use Rattle.json.specs.Print.{escape_byte, quoted}
use Rattle.serde_json.specs.Data.{Data}
use Rattle.serde_json.specs.Written.{comma_if, compact_text}
use Rattle.lexer.specs.declared.source.Place.{Place}
use Rattle.lexer.specs.declared.source.Source.{Source}
use Rattle.lexer.specs.Place.{line_of, column_of}
use Rattle.report.specs.ReportText.{bytes_of}
use Rattle.report.specs.Writing.{TakesFront}
use Rattle.format_parts.specs.FileUris.{is_kept, uri_byte}
use Rattle.format_parts.specs.declared.strings.Spelling.{Spelling}
use Rattle.format_parts.specs.declared.strings.Spelling.TheVariants.{InString, InUri}
use Rattle.format_parts.specs.declared.pieces.FormatPiece.{FormatPiece}
use Rattle.format_parts.specs.declared.pieces.FormatPiece.TheVariants.{Plain, Number, Spelled}

-- what stands for one byte
abbrev pub byte_text : Spelling → ℕ → List ℕ
byte_text InString = escape_byte
byte_text InUri = uri_byte

-- the byte stands for itself in a JSON string: it is no control code, no quote and no backslash
abbrev pub stands_in_string : ℕ → Bool
stands_in_string b = nat_le 32 b && not (b == 34) && not (b == 92)

-- the byte stands for itself
abbrev pub stands : Spelling → ℕ → Bool
stands InString = stands_in_string
stands InUri = is_kept

abbrev pub spelled : Spelling → List ℕ → List ℕ
spelled spelling = flat_map (byte_text spelling)

-- Of bytes in this spelling a front was put, and what follows it is left; or the text was begun.
abbrev pub PutsFront : {E : Type 0} → Spelling → List ℕ → (old new : List ℕ) → Result (Bor (List ℕ)) E → Type 0
PutsFront spelling bytes old new (Ok rest) =
    (front : List ℕ) × (spelled spelling bytes ≡ front ++ spelled spelling rest.now) × (new ≡ old ++ front)
PutsFront spelling bytes old new (Err why) = TakesFront (spelled spelling bytes) old new

abbrev pub piece_text : FormatPiece → List ℕ
piece_text (Plain text) = text.now
piece_text (Number number) = decimal number
piece_text (Spelled spelling text) = spelled spelling text.now

-- values of a list, with a comma before each, but before the first only where others stand before it
abbrev pub listed : Bool → List Data → List ℕ
listed later [] = []
listed later (d ∷ ds) = comma_if later ++ (compact_text d ++ listed true ds)

-- members of an object, with a comma before each, but before the first only where others stand before it
abbrev pub members_listed : Bool → List (List ℕ × Data) → List ℕ
members_listed later [] = []
members_listed later (m ∷ ms) = comma_if later ++ (quoted m.0 ++ 58 ∷ (compact_text m.1 ++ members_listed true ms))

-- an object behind its comma, but for its last brace
abbrev pub opened : Bool → List (List ℕ × Data) → List ℕ
opened later ms = comma_if later ++ 123 ∷ members_listed false ms

-- whether results stand before what follows a package with these diagnostics
abbrev pub after_results : {X : Type 0} → Bool → List X → Bool
after_results later [] = later
after_results later (d ∷ ds) = true

-- the place of an offset in a source, with its column in bytes
pub record IsBytePlace (source : Option Source) (offset : ℕ) (place : Place) : Type 0 where
  pub line : place.line ≡ line_of (bytes_of source) offset
  pub column : place.column ≡ column_of (bytes_of source) offset
