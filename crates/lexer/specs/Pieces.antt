-- What a piece of a Go text is, by its bytes: white space, a comment or a token.
-- A piece says what it is and how many bytes it has; where it may stand is said in `Cut`.
-- (The Go specification, "Comments" and "Tokens".)
use Rattle.std.specs.Prelude.{◌≡◌, ◌≢◌, ℕ, suc, ◌<◌, Bool, true, false, not, ◌&&◌, ◌||◌, ◌==◌, if◌then◌else◌, IsTrue, List, [], ◌∷◌, length, slice_index, All, IsFalse}
use Rattle.std.specs.List.{list_any}
use Rattle.std.specs.Char.{is_ascii_digit}
use Rattle.std.specs.Str.{encode_utf8_all}
use Rattle.lexer.specs.declared.token.TokenKind.{TokenKind}
use Rattle.lexer.specs.declared.token.TokenKind.TheVariants.{Identifier, Number, InterpretedString, RawString, Rune}
use Rattle.lexer.specs.declared.pieces.PieceKind.{PieceKind}
use Rattle.lexer.specs.declared.pieces.PieceKind.TheVariants.{WhiteSpace, Newline, LineComment, GeneralComment, GeneralCommentWithNewline, TokenOf}
use Rattle.lexer.specs.Bytes.{tab, line_feed, carriage_return, space, double_quote, single_quote, asterisk, plus, minus, period, slash, digit_zero, upper_e, upper_p, upper_x, backslash, back_quote, lower_e, lower_p, lower_x}
use Rattle.lexer.specs.Letters.{is_letter, is_digit, is_ascii_letter_or_digit}
use Rattle.lexer.specs.Spelling.{spelling, is_keyword}

-- white space but for the newline, which ends a line and is a piece of its own kind
abbrev pub is_white_space : ℕ → Bool
is_white_space b = (b == space || b == tab) || b == carriage_return

-- a letter and then letters and digits, in UTF-8
pub record IsWord (bytes : List ℕ) : Type 0 where
  pub first : ℕ
  pub others : List ℕ
  pub encoded : encode_utf8_all (first ∷ others) ≡ bytes
  pub begins : IsTrue (is_letter first)
  pub goes_on : All (λ c. IsTrue (is_letter c || is_digit c)) others

-- a number begins with a digit, or with a period before one
abbrev pub starts_number : ℕ → ℕ → Bool
starts_number first second = is_ascii_digit first || (first == period && is_ascii_digit second)

-- a number that begins `0x` or `0X`
abbrev pub is_hexadecimal : List ℕ → Bool
is_hexadecimal bytes =
    slice_index bytes 0 == digit_zero && (slice_index bytes 1 == lower_x || slice_index bytes 1 == upper_x)

-- the letters whose exponent may have a sign: p and P in a hexadecimal number, else e and E
abbrev pub is_exponent : Bool → ℕ → Bool
is_exponent hexadecimal b =
    if hexadecimal then b == lower_p || b == upper_p
    else b == lower_e || b == upper_e

-- b goes on with a number in which `previous` stands before it: a sign only after an exponent's letter
abbrev pub goes_on : Bool → ℕ → ℕ → Bool
goes_on hexadecimal previous b =
    if b == plus || b == minus then is_exponent hexadecimal previous
    else is_ascii_letter_or_digit b || b == period

-- a number, of which neither the digits nor their order are checked
pub record IsNumber (bytes : List ℕ) : Type 0 where
  pub begins : IsTrue (starts_number (slice_index bytes 0) (slice_index bytes 1))
  pub goes_on :
      (i : ℕ) → suc i < length bytes →
      IsTrue (goes_on (is_hexadecimal bytes) (slice_index bytes i) (slice_index bytes (suc i)))

abbrev pub is_empty : List ℕ → Bool
is_empty [] = true
is_empty (b ∷ bs) = false

-- a newline ends all but a raw string, which stands in back quotes, and a backslash escapes in all but it
abbrev pub breaks : ℕ → ℕ → Bool
breaks quote b = b == line_feed && not (quote == back_quote)

abbrev pub escapes : ℕ → ℕ → Bool
escapes quote b = b == backslash && not (quote == back_quote)

-- what stands after an opening quote: its closing quote at the end and nowhere before, and no newline that ends it
unfoldable pub closes : ℕ → Bool → List ℕ → Bool
closes quote escaped [] = false
closes quote escaped (b ∷ bs) =
    if breaks quote b then false
    else if escaped then closes quote false bs
    else if b == quote then is_empty bs
    else closes quote (escapes quote b) bs

-- a string, a raw string or a rune with that quote
pub record IsQuoted (quote : ℕ) (bytes : List ℕ) : Type 0 where
  pub inner : List ℕ
  pub opens : bytes ≡ quote ∷ inner
  pub closed : IsTrue (closes quote false inner)

abbrev pub has_newline : List ℕ → Bool
has_newline = list_any (λ b. b == line_feed)

-- `//` and no newline
pub record IsLineComment (bytes : List ℕ) : Type 0 where
  pub inner : List ℕ
  pub opens : bytes ≡ slash ∷ slash ∷ inner
  pub one_line : IsFalse (has_newline inner)

-- what stands after `/*`: the first `*/` at its end
unfoldable pub closes_comment : List ℕ → Bool
closes_comment [] = false
closes_comment (b ∷ []) = false
closes_comment (b ∷ c ∷ bs) =
    if b == asterisk && c == slash then is_empty bs
    else closes_comment (c ∷ bs)

pub record IsGeneralComment (bytes : List ℕ) : Type 0 where
  pub inner : List ℕ
  pub opens : bytes ≡ slash ∷ asterisk ∷ inner
  pub closed : IsTrue (closes_comment inner)

-- the bytes are a token of that kind
unfoldable pub IsToken : TokenKind → List ℕ → Type 0
IsToken Identifier bytes = IsWord bytes × ((k : TokenKind) → IsTrue (is_keyword k) → bytes ≢ spelling k)
IsToken Number bytes = IsNumber bytes
IsToken InterpretedString bytes = IsQuoted double_quote bytes
IsToken RawString bytes = IsQuoted back_quote bytes
IsToken Rune bytes = IsQuoted single_quote bytes
IsToken k bytes = bytes ≡ spelling k

-- the bytes are a piece of that kind
unfoldable pub Reads : PieceKind → List ℕ → Type 0
Reads WhiteSpace bytes = (b : ℕ) × (bytes ≡ b ∷ []) × IsTrue (is_white_space b)
Reads Newline bytes = bytes ≡ line_feed ∷ []
Reads LineComment bytes = IsLineComment bytes
Reads GeneralComment bytes = IsGeneralComment bytes × IsFalse (has_newline bytes)
Reads GeneralCommentWithNewline bytes = IsGeneralComment bytes × IsTrue (has_newline bytes)
Reads (TokenOf k) bytes = IsToken k bytes
