-- Columns that count code points from 1, as SARIF has them (its `columnKind` is `unicodeCodePoints`). In UTF-8 each
-- byte begins a code point, but for those that go on with one. A file that is not UTF-8 is counted in the same way.
use Rattle.std.specs.Prelude.{ℕ, ◌+◌, ◌-◌, Bool, not, ◌&&◌, nat_le, nat_lt, List, length, take, drop, count_by}
use Rattle.lexer.specs.Place.{column_of}

-- the byte goes on with a code point: its two high bits are 10
abbrev pub is_continuation : ℕ → Bool
is_continuation b = nat_le 0x80 b && nat_lt b 0xC0

abbrev pub begins_code_point : ℕ → Bool
begins_code_point b = not (is_continuation b)

-- the last bytes of a text
abbrev pub last_bytes : ℕ → List ℕ → List ℕ
last_bytes count text = drop (length text - count) text

-- the bytes of an offset's line before it: one less than its column, which counts bytes
abbrev pub line_before : List ℕ → ℕ → List ℕ
line_before text offset = last_bytes (column_of text offset - 1) (take offset text)

-- one more than the code points that begin on the line before the offset
abbrev pub code_point_column : List ℕ → ℕ → ℕ
code_point_column text offset = 1 + count_by begins_code_point (line_before text offset)
