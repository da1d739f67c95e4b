-- Places in a text, as people count them: lines and columns from 1. A line ends with its
-- line feed, and a column counts bytes.
use Rattle.std.specs.Prelude.{ℕ, ◌+◌, Bool, not, List, take, nat_eq, count_by}
use Rattle.std.specs.List.{suffix_len}
use Rattle.lexer.specs.Bytes.{line_feed}

-- the byte ends a line
abbrev pub is_newline : ℕ → Bool
is_newline b = nat_eq b line_feed

-- the line of an offset: one more than the lines that end before it
abbrev pub line_of : List ℕ → ℕ → ℕ
line_of text offset = 1 + count_by is_newline (take offset text)

-- its column: one more than the bytes between the last newline before it and it
abbrev pub column_of : List ℕ → ℕ → ℕ
column_of text offset = 1 + suffix_len (λ b. not (is_newline b)) (take offset text)
