-- What a directive accepts. Behind its mark stand a blank, codes, a blank and a reason; in any other form it accepts
-- nothing. A code is `LC` and two digits, and codes stand apart by single commas. The reason is the rest of the line
-- without the blanks, tabs and carriage returns at its two ends, and not empty.
use Rattle.std.specs.Prelude.{ℕ, ◌-◌, ◌==◌, ◌&&◌, ◌||◌, nat_lt, nat_eq, if◌then◌else◌, Bool, List, [], ◌∷◌, Option, Some, None, codes, length, take, drop, slice_index}
use Rattle.std.specs.Char.{is_ascii_digit}
use Rattle.std.specs.List.{after_first, before_first, list_all, list_any, prefix_len, slice_split, starts_with, suffix_len}
use Rattle.std.specs.Str.{bytes_eq}
use Rattle.lexer.specs.Bytes.{carriage_return, comma, space}
use Rattle.directives.specs.Marks.{is_blank}

abbrev pub is_space : ℕ → Bool
is_space b = b == space

abbrev pub is_comma : ℕ → Bool
is_comma b = b == comma

-- what may stand around a reason
abbrev pub is_white_space : ℕ → Bool
is_white_space b = is_blank b || b == carriage_return

-- `LC` and two digits
abbrev pub is_code : List ℕ → Bool
is_code piece =
    length piece == 4
    && starts_with nat_eq piece (codes "LC")
    && (is_ascii_digit (slice_index piece 2) && is_ascii_digit (slice_index piece 3))

-- what commas part, one piece at least
abbrev pub pieces_of : List ℕ → List (List ℕ)
pieces_of text = slice_split is_comma text

abbrev pub are_codes : List ℕ → Bool
are_codes text = list_all is_code (pieces_of text)

-- one of these codes is the one of this number
abbrev pub names_code : List ℕ → List ℕ → Bool
names_code text number = list_any (λ piece. bytes_eq piece number) (pieces_of text)

-- the bytes without white space at their start, at their end, and at both
abbrev pub without_start : List ℕ → List ℕ
without_start bytes = drop (prefix_len is_white_space bytes) bytes

abbrev pub without_end : List ℕ → List ℕ
without_end bytes = take (length bytes - suffix_len is_white_space bytes) bytes

abbrev pub trimmed : List ℕ → List ℕ
trimmed bytes = without_end (without_start bytes)

-- codes and a reason, where both are in their form
abbrev pub accepted_for : List ℕ → List ℕ → Option (List ℕ × List ℕ)
accepted_for text reason = if are_codes text && nat_lt 0 (length reason) then Some (text, reason) else None

-- the codes that are accepted, and the reason, by what stands behind the blank behind the mark
abbrev pub accepted_by : List ℕ → Option (List ℕ × List ℕ)
accepted_by form = accepted_for (before_first is_space form) (trimmed (after_first is_space form))

-- the same by what stands behind the mark
abbrev pub accepted : List ℕ → Option (List ℕ × List ℕ)
accepted [] = None
accepted (b ∷ form) = if is_space b then accepted_by form else None
