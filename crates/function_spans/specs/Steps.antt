-- Where a statement ends that begins at an offset of a text, behind its last byte that is neither white space nor in a
-- comment. Of a statement with a block, or of a clause, it is the header alone: that ends before the brace of the
-- block, or before the colon. Another one ends with its line, or before a semicolon. All of this outside of brackets,
-- comments and quotes. Headers are as gofmt writes them: white space stands before the brace of a block alone.
use Rattle.std.specs.Prelude.{ℕ, ◌+◌, ◌==◌, Bool, true, false, ◌&&◌, ◌||◌, not, if◌then◌else◌, List, [], ◌∷◌, codes, drop, length, slice_index}
use Rattle.lexer.specs.Bytes.{asterisk, colon, equals, left_brace, line_feed, right_brace, semicolon, slash}
use Rattle.lexer.specs.Pieces.{is_white_space}
use Rattle.function_spans.specs.Bodies.{after, at_start, begins_with, closes, is_code}
use Rattle.function_spans.specs.Functions.{is_func, is_outside, word_of}
use Rattle.function_spans.specs.declared.bodies.Scan.{Scan}
use Rattle.function_spans.specs.declared.bodies.Within.{Within}
use Rattle.function_spans.specs.declared.bodies.Within.TheVariants.{Code, LineComment, CommentOpens, Comment, CommentCloses, Quoted, Escaped}

-- the keyword of a statement with a block, or of a clause
abbrev pub begins_header : List ℕ → Bool
begins_header text =
    begins_with (codes "if") text
    || (begins_with (codes "for") text
    || (begins_with (codes "switch") text
    || (begins_with (codes "select") text
    || (begins_with (codes "case") text || begins_with (codes "default") text))))

-- Where it ends, by the byte before; in a function literal outside of brackets it does not

abbrev pub in_literal_after : Scan → (in_literal : Bool) → List ℕ → Bool
in_literal_after s in_literal text =
    (s.depth == 0 && is_func s text)
    || (in_literal && not (is_code s.within && (slice_index text 0 == right_brace && s.depth == 1)))

abbrev pub opens_block : Scan → (in_literal : Bool) → (before : ℕ) → ℕ → Bool
opens_block s in_literal before b = b == left_brace && (is_white_space before && not (s.is_type || in_literal))

-- the colon of a clause, and not that of `:=`
abbrev pub ends_clause : List ℕ → Bool
ends_clause text = slice_index text 0 == colon && not (slice_index text 1 == equals)

abbrev pub ends_header : Scan → (in_literal : Bool) → (before : ℕ) → List ℕ → Bool
ends_header s in_literal before text =
    is_outside s && (opens_block s in_literal before (slice_index text 0) || ends_clause text)

abbrev pub ends_simple : Scan → ℕ → Bool
ends_simple s b = s.depth == 0 && (b == line_feed || (is_code s.within && (b == semicolon || closes b)))

abbrev pub ends_step : (is_header : Bool) → Scan → (in_literal : Bool) → (before : ℕ) → List ℕ → Bool
ends_step true s in_literal before text = ends_header s in_literal before text
ends_step false s in_literal before text = ends_simple s (slice_index text 0)

-- Which bytes count

abbrev pub is_blank : ℕ → Bool
is_blank b = is_white_space b || b == line_feed

abbrev pub is_of_comment : Within → Bool
is_of_comment Code = false
is_of_comment LineComment = true
is_of_comment CommentOpens = true
is_of_comment Comment = true
is_of_comment CommentCloses = true
is_of_comment (Quoted quote) = false
is_of_comment (Escaped quote) = false

abbrev pub opens_comment : List ℕ → Bool
opens_comment text =
    slice_index text 0 == slash && (slice_index text 1 == slash || slice_index text 1 == asterisk)

abbrev pub is_solid : Scan → List ℕ → Bool
is_solid s text = not (is_of_comment s.within) && not (is_blank (slice_index text 0) || opens_comment text)

-- the end so far, with the byte at this offset
abbrev pub end_with : Scan → (at end : ℕ) → List ℕ → ℕ
end_with s at end text = if is_solid s text then at + 1 else end

abbrev pub end_from : (is_header : Bool) → Scan → (in_literal : Bool) → (before at end : ℕ) → List ℕ → ℕ
end_from is_header s in_literal before at end [] = end
end_from is_header s in_literal before at end (b ∷ bs) =
    if ends_step is_header s in_literal before (b ∷ bs) then end
    else end_from is_header (after s (b ∷ bs)) (in_literal_after s in_literal (b ∷ bs)) b (at + 1)
    (end_with s at end (b ∷ bs)) bs

-- where the statement ends that begins there
abbrev pub statement_end : List ℕ → ℕ → ℕ
statement_end text offset =
    end_from (begins_header (drop offset text)) at_start false 0 offset offset (drop offset text)

-- where the word ends that begins there
abbrev pub word_end : List ℕ → ℕ → ℕ
word_end text offset = offset + length (word_of (drop offset text))
