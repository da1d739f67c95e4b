-- Where the body of a function ends: at the brace that closes its first braces, by the text from its `func` on. What
-- stands in comments, strings and runes counts for nothing, nor do the braces of a type `struct {..}` or
-- `interface {..}` as a result, or what stands in other brackets before the body.
use Rattle.std.specs.Prelude.{ℕ, ◌+◌, ◌-◌, ◌==◌, Bool, true, false, ◌&&◌, ◌||◌, not, if◌then◌else◌, nat_eq, nat_le, List, [], ◌∷◌, codes, drop, length, slice_index}
use Rattle.std.specs.Char.{is_ascii_alphabetic, is_ascii_digit}
use Rattle.std.specs.List.{starts_with}
use Rattle.lexer.specs.Bytes.{asterisk, back_quote, backslash, double_quote, left_brace, left_bracket, left_parenthesis, line_feed, right_brace, right_bracket, right_parenthesis, single_quote, slash, underscore}
use Rattle.function_spans.specs.declared.bodies.Scan.{Scan}
use Rattle.function_spans.specs.declared.bodies.Within.{Within}
use Rattle.function_spans.specs.declared.bodies.Within.TheVariants.{Code, LineComment, CommentOpens, Comment, CommentCloses, Quoted, Escaped}

abbrev pub is_quote : ℕ → Bool
is_quote b = b == double_quote || (b == single_quote || b == back_quote)

abbrev pub opens : ℕ → Bool
opens b = b == left_brace || (b == left_parenthesis || b == left_bracket)

abbrev pub closes : ℕ → Bool
closes b = b == right_brace || (b == right_parenthesis || b == right_bracket)

-- a byte of a keyword or identifier: each letter that is not ASCII has bytes from 128 on
abbrev pub is_of_word : ℕ → Bool
is_of_word b = (is_ascii_alphabetic b || is_ascii_digit b) || (b == underscore || nat_le 128 b)

-- the text begins with this word
abbrev pub begins_with : List ℕ → List ℕ → Bool
begins_with word text = starts_with nat_eq text word && not (is_of_word (slice_index text (length word)))

-- with the keyword of a type that has braces
abbrev pub begins_type : List ℕ → Bool
begins_type text = begins_with (codes "struct") text || begins_with (codes "interface") text

-- In what the next byte stands, by this one and the one behind it

abbrev pub after_slash : ℕ → Within
after_slash next = if next == slash then LineComment else if next == asterisk then CommentOpens else Code

abbrev pub within_after : Within → (byte next : ℕ) → Within
within_after Code b next = if is_quote b then Quoted b else if b == slash then after_slash next else Code
within_after LineComment b next = if b == line_feed then Code else LineComment
within_after CommentOpens b next = Comment
within_after Comment b next = if b == asterisk && next == slash then CommentCloses else Comment
within_after CommentCloses b next = Code
within_after (Quoted quote) b next =
    if b == quote then Code
    else if b == backslash && not (quote == back_quote) then Escaped quote
    else Quoted quote
within_after (Escaped quote) b next = Quoted quote

abbrev pub is_code : Within → Bool
is_code Code = true
is_code within = false

-- What is known at the next byte: how many brackets are open, whether this one is of a word, and whether the next
-- brace outside of brackets, or the one that is open there, is that of a type

abbrev pub depth_after : ℕ → ℕ → ℕ
depth_after depth b = if opens b then depth + 1 else if closes b then depth - 1 else depth

abbrev pub is_type_after : Scan → List ℕ → Bool
is_type_after s text =
    if s.depth == 0 && (is_of_word (slice_index text 0) && not s.in_word) then begins_type text
    else s.is_type && not (slice_index text 0 == right_brace && s.depth == 1)

-- by the text from this byte on
abbrev pub after : Scan → List ℕ → Scan
after s text = record {
  within = within_after s.within (slice_index text 0) (slice_index text 1);
  depth = if is_code s.within then depth_after s.depth (slice_index text 0) else s.depth;
  in_word = is_code s.within && is_of_word (slice_index text 0);
  is_type = if is_code s.within then is_type_after s text else s.is_type;
}

abbrev pub at_start : Scan
at_start = record { within = Code; depth = 0; in_word = false; is_type = false }

-- the byte closes the body
abbrev pub ends : Scan → ℕ → Bool
ends s b = is_code s.within && (b == right_brace && (s.depth == 1 && not s.is_type))

-- how many bytes stand before the one that closes the body: all, where none does
abbrev pub size_from : Scan → List ℕ → ℕ
size_from s [] = 0
size_from s (b ∷ bs) = if ends s b then 0 else 1 + size_from (after s (b ∷ bs)) bs

-- where the body of the function ends whose `func` stands at this offset of the text
abbrev pub body_end : List ℕ → ℕ → ℕ
body_end text function = function + size_from at_start (drop function text)
