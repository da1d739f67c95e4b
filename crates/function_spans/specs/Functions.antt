-- In which function or method of a file an offset stands, by the bytes of the text: from `func` to the brace that
-- closes the body. The `func` of a declaration stands outside of all brackets, with a name and a bracket behind it, or
-- behind its receiver. Heads are as gofmt writes them: white space stands behind the `func` of a declaration alone, and
-- up to the brace of the body a line ends in brackets alone. A `func` without a body is a type, or declared elsewhere.
use Rattle.std.specs.Prelude.{ℕ, zero, suc, ◌+◌, ◌-◌, ◌==◌, Bool, false, ◌&&◌, ◌||◌, not, nat_le, if◌then◌else◌, List, [], ◌∷◌, ◌++◌, codes, drop, length, slice_index, Option, Some, None}
use Rattle.lexer.specs.Bytes.{colon, comma, equals, left_brace, left_bracket, left_parenthesis, line_feed, right_bracket, right_parenthesis, semicolon, slash}
use Rattle.lexer.specs.Pieces.{is_white_space}
use Rattle.function_spans.specs.Bodies.{after, at_start, begins_with, closes, ends, is_code, is_of_word, size_from}
use Rattle.function_spans.specs.declared.bodies.Scan.{Scan}

-- outside of brackets, comments and quotes
abbrev pub is_outside : Scan → Bool
is_outside s = is_code s.within && s.depth == 0

-- the word `func` begins there
abbrev pub is_func : Scan → List ℕ → Bool
is_func s text = (is_code s.within && not s.in_word) && begins_with (codes "func") text

-- Whether a head comes to the brace of a body

abbrev pub opens_body : Scan → ℕ → Bool
opens_body s b = is_outside s && (b == left_brace && not s.is_type)

-- what stands in no head, outside of brackets
abbrev pub is_behind_heads : ℕ → Bool
is_behind_heads b = closes b || (b == comma || (b == semicolon || (b == colon || b == equals)))

abbrev pub ends_head : Scan → ℕ → Bool
ends_head s b = s.depth == 0 && (b == line_feed || (is_code s.within && is_behind_heads b))

abbrev pub comes_to_body : Scan → List ℕ → Bool
comes_to_body s [] = false
comes_to_body s (b ∷ bs) =
    opens_body s b || (not (ends_head s b) && comes_to_body (after s (b ∷ bs)) bs)

abbrev pub has_body : List ℕ → Bool
has_body text = comes_to_body at_start text

-- The name of a declared function

-- white space, the bracket of a receiver, and the slash of a comment
abbrev pub is_before_name : ℕ → Bool
is_before_name b = is_white_space b || (b == left_parenthesis || b == slash)

abbrev pub begins_name : Scan → ℕ → Bool
begins_name s b = is_outside s && not (is_before_name b)

-- the text from the first other byte on, outside of brackets
abbrev pub name_text : Scan → List ℕ → List ℕ
name_text s [] = []
name_text s (b ∷ bs) = if begins_name s b then b ∷ bs else name_text (after s (b ∷ bs)) bs

-- the text from the name on, of the function whose `func` begins this text
abbrev pub named_text : List ℕ → List ℕ
named_text text = name_text at_start (drop 4 text)

abbrev pub word_of : List ℕ → List ℕ
word_of [] = []
word_of (b ∷ bs) = if is_of_word b then b ∷ word_of bs else []

-- that of the function whose `func` stands at this offset of the text
abbrev pub function_name : List ℕ → ℕ → List ℕ
function_name text function = word_of (named_text (drop function text))

-- The type of a receiver: the last word in its brackets, what stands in further brackets aside

abbrev pub begins_type_name : Scan → ℕ → Bool
begins_type_name s b = (is_code s.within && s.depth == 1) && (is_of_word b && not s.in_word)

-- the word at a text's start, if it is one of those, or else the one that was found before
abbrev pub later_word : Scan → (found text : List ℕ) → List ℕ
later_word s found text = if begins_type_name s (slice_index text 0) then word_of text else found

-- the last one before the name
abbrev pub last_word : Scan → (found text : List ℕ) → List ℕ
last_word s found [] = found
last_word s found (b ∷ bs) =
    if begins_name s b then found
    else last_word (after s (b ∷ bs)) (later_word s found (b ∷ bs)) bs

abbrev pub receiver_type : List ℕ → ℕ → List ℕ
receiver_type text function = last_word at_start [] (drop 4 (drop function text))

-- `T.` of a method of the type T
abbrev pub type_before : List ℕ → List ℕ
type_before [] = []
type_before type_name = type_name ++ codes "."

-- `NAME` or `T.NAME`
abbrev pub full_name : List ℕ → ℕ → List ℕ
full_name text function = type_before (receiver_type text function) ++ function_name text function

-- its name stands there, with a bracket behind it
abbrev pub is_named : List ℕ → Bool
is_named named =
    is_of_word (slice_index named 0)
    && (slice_index named (length (word_of named)) == left_parenthesis
    || slice_index named (length (word_of named)) == left_bracket)

-- Declared functions

-- white space stands behind the `func` of a declaration, and a bracket behind that of a literal or a type
abbrev pub declares : Scan → List ℕ → Bool
declares s text =
    (s.depth == 0 && is_func s text)
    && (is_white_space (slice_index text 4) && (is_named (named_text text) && has_body text))

-- where the `func` stands of the function that is open behind the byte at this offset, if one is
abbrev pub open_behind : Scan → (at : ℕ) → Option ℕ → List ℕ → Option ℕ
open_behind s at around text =
    if declares s text then Some at else if ends s (slice_index text 0) then None else around

-- and of the function in which that byte itself stands
abbrev pub open_with : Scan → (at : ℕ) → Option ℕ → List ℕ → Option ℕ
open_with s at around text = if declares s text then Some at else around

-- and the byte behind so many of the text
abbrev pub open_from : Scan → (at : ℕ) → Option ℕ → (left : ℕ) → List ℕ → Option ℕ
open_from s at around left [] = around
open_from s at around zero (b ∷ bs) = open_with s at around (b ∷ bs)
open_from s at around (suc left) (b ∷ bs) =
    open_from (after s (b ∷ bs)) (at + 1) (open_behind s at around (b ∷ bs)) left bs

-- where the `func` stands of the function in which the offset of the text stands
abbrev pub function_at : List ℕ → ℕ → Option ℕ
function_at text offset = open_from at_start 0 None offset text

-- Function literals

-- the last byte that is no white space, with one byte more
abbrev pub solid_after : (before byte : ℕ) → ℕ
solid_after before byte = if is_white_space byte then before else byte

-- behind these brackets stands the type of elements, or of a result
abbrev pub comes_before_type : ℕ → Bool
comes_before_type before = before == right_bracket || before == right_parenthesis

-- a literal begins there, by the last byte before that is no white space
abbrev pub begins_literal : Scan → (before : ℕ) → List ℕ → Bool
begins_literal s before text = (is_func s text && not (comes_before_type before)) && has_body text

-- the byte behind so many of the text stands in a literal that begins there
abbrev pub literal_holds : Scan → (before left : ℕ) → List ℕ → Bool
literal_holds s before left text = begins_literal s before text && nat_le left (size_from at_start text)

-- it stands in a literal that begins there or further on
abbrev pub in_literal_from : Scan → (before left : ℕ) → List ℕ → Bool
in_literal_from s before left [] = false
in_literal_from s before zero (b ∷ bs) = literal_holds s before 0 (b ∷ bs)
in_literal_from s before (suc left) (b ∷ bs) =
    literal_holds s before (suc left) (b ∷ bs) || in_literal_from (after s (b ∷ bs)) (solid_after before b) left bs

-- the offset stands in a literal of the function whose `func` stands there
abbrev pub is_in_literal : List ℕ → (function offset : ℕ) → Bool
is_in_literal text function offset =
    in_literal_from (after at_start (drop function text)) (slice_index text function)
    (offset - (function + 1)) (drop (function + 1) text)
