-- Where a directive stands in a line: where `//ctxvet:accept` stands at the line's start, or straight behind a blank or
-- a tab. Of several such places the first one counts.
use Rattle.std.specs.Prelude.{ℕ, ◌-◌, ◌==◌, ◌&&◌, ◌||◌, Bool, List, Option, codes, length, slice_index}
use Rattle.std.specs.List.{find, range_with_len}
use Rattle.lexer.specs.Bytes.{space, tab}
use Rattle.memchr.specs.Find.{occurs_at}

-- the bytes with which a directive begins
abbrev pub mark : List ℕ
mark = codes "//ctxvet:accept"

abbrev pub is_blank : ℕ → Bool
is_blank b = b == space || b == tab

-- the place is the line's start, or straight behind a blank or a tab
abbrev pub is_free : List ℕ → ℕ → Bool
is_free line place = place == 0 || is_blank (slice_index line (place - 1))

-- the mark stands free at this place of the line
abbrev pub stands_at : List ℕ → ℕ → Bool
stands_at line place = occurs_at line mark place && is_free line place

-- the places of the line's bytes, from its start on
abbrev pub places_of : List ℕ → List ℕ
places_of line = range_with_len 0 (length line)

-- the place of the line's directive, if it has one: the first place at which it stands free
abbrev pub place_in : List ℕ → Option ℕ
place_in line = find (stands_at line) (places_of line)
