-- By which call a value is bound whose name stands at an offset of a text: that behind the next `=`, outside of
-- brackets, comments and quotes, before the line or the statement ends. What is told of it is the name that is called,
-- as it stands there: words with dots between, and a bracket behind.
use Rattle.std.specs.Prelude.{ℕ, ◌==◌, Bool, ◌&&◌, ◌||◌, if◌then◌else◌, List, [], ◌∷◌, drop, length, slice_index, Option, Some, None}
use Rattle.lexer.specs.Bytes.{equals, left_bracket, left_parenthesis, period}
use Rattle.function_spans.specs.Bodies.{after, at_start, is_of_word}
use Rattle.function_spans.specs.Functions.{is_outside}
use Rattle.function_spans.specs.Steps.{ends_simple, is_blank}
use Rattle.function_spans.specs.declared.bodies.Scan.{Scan}

abbrev pub is_binding : Scan → ℕ → Bool
is_binding s b = is_outside s && b == equals

-- the text behind the `=`; none where it does not come
abbrev pub value_from : Scan → List ℕ → List ℕ
value_from s [] = []
value_from s (b ∷ bs) =
    if is_binding s b then bs else if ends_simple s b then [] else value_from (after s (b ∷ bs)) bs

-- the text from its first byte on that is no white space
abbrev pub solid_from : List ℕ → List ℕ
solid_from [] = []
solid_from (b ∷ bs) = if is_blank b then solid_from bs else b ∷ bs

abbrev pub is_of_name : ℕ → Bool
is_of_name b = is_of_word b || b == period

-- the words with dots between that begin the text
abbrev pub name_of : List ℕ → List ℕ
name_of [] = []
name_of (b ∷ bs) = if is_of_name b then b ∷ name_of bs else []

abbrev pub is_called : (behind : ℕ) → Bool
is_called behind = behind == left_parenthesis || behind == left_bracket

-- the name that the text calls, if it begins with one
abbrev pub name_called : List ℕ → Option (List ℕ)
name_called text =
    if is_of_word (slice_index text 0) && is_called (slice_index text (length (name_of text)))
    then Some (name_of text)
    else None

-- that of the value whose name stands there
abbrev pub bound_by : List ℕ → ℕ → Option (List ℕ)
bound_by text offset = name_called (solid_from (value_from at_start (drop offset text)))
