-- How a text is cut into values that stand one after another, before any of them is read as JSON. So a text that is no
-- JSON is cut too: what stands in no right place, as a comma, is a piece of its own, and where a text ends within a
-- value, the rest is its last piece. Neither is JSON.
use Rattle.std.specs.Prelude.{ℕ, zero, suc, ◌-◌, ◌==◌, ◌||◌, Bool, false, not, List, [], ◌∷◌, take, if◌then◌else◌}
use Rattle.package_list.specs.declared.cut.Place.{Place}
use Rattle.package_list.specs.declared.cut.Place.TheVariants.{Outside, InString, Taken}

-- Bytes

abbrev pub tab : ℕ
tab = 9

abbrev pub newline : ℕ
newline = 10

abbrev pub carriage_return : ℕ
carriage_return = 13

abbrev pub space : ℕ
space = 32

abbrev pub quote : ℕ
quote = 34

abbrev pub comma : ℕ
comma = 44

abbrev pub colon : ℕ
colon = 58

abbrev pub left_bracket : ℕ
left_bracket = 91

abbrev pub backslash : ℕ
backslash = 92

abbrev pub right_bracket : ℕ
right_bracket = 93

abbrev pub left_brace : ℕ
left_brace = 123

abbrev pub right_brace : ℕ
right_brace = 125

-- between values
abbrev pub is_blank : ℕ → Bool
is_blank b = b == space || b == tab || b == newline || b == carriage_return

abbrev pub opens : ℕ → Bool
opens b = b == left_brace || b == left_bracket

abbrev pub closes : ℕ → Bool
closes b = b == right_brace || b == right_bracket

-- in a number or a word
abbrev pub is_plain : ℕ → Bool
is_plain b = not (is_blank b || opens b || closes b || b == quote || b == comma || b == colon)

-- Values that end with a byte of their own

-- where the byte after this one stands: in a string from a quote to the next one that no backslash takes
abbrev pub place_after : Place → ℕ → Place
place_after Outside b = if b == quote then InString else Outside
place_after InString b = if b == quote then Outside else if b == backslash then Taken else InString
place_after Taken b = InString

-- how many brackets are open after this byte; those in strings don't count
abbrev pub opened_after : Place → ℕ → ℕ → ℕ
opened_after Outside opened b = if opens b then suc opened else if closes b then opened - 1 else opened
opened_after InString opened b = opened
opened_after Taken opened b = opened

-- neither a bracket nor a string is open
abbrev pub is_over : Place → ℕ → Bool
is_over Outside opened = opened == 0
is_over InString opened = false
is_over Taken opened = false

-- how many bytes there are up to the first after which nothing is open
abbrev pub bracketed_size : Place → ℕ → List ℕ → ℕ
bracketed_size place opened [] = 0
bracketed_size place opened (b ∷ bytes) =
    if is_over (place_after place b) (opened_after place opened b) then 1
    else suc (bracketed_size (place_after place b) (opened_after place opened b) bytes)

-- Other values

-- how many plain bytes there are
abbrev pub plain_size : List ℕ → ℕ
plain_size [] = 0
plain_size (b ∷ bytes) = if is_plain b then suc (plain_size bytes) else 0

-- All of them

-- the size of the first value of a text that begins with no blank
abbrev pub piece_size : List ℕ → ℕ
piece_size [] = 0
piece_size (b ∷ bytes) = if is_plain b then plain_size (b ∷ bytes) else bracketed_size Outside 0 (b ∷ bytes)

-- the values behind so many bytes, which belong to one that was begun
abbrev pub pieces_behind : ℕ → List ℕ → List (List ℕ)
pieces_behind left [] = []
pieces_behind (suc left) (b ∷ bytes) = pieces_behind left bytes
pieces_behind zero (b ∷ bytes) =
    if is_blank b then pieces_behind 0 bytes
    else take (piece_size (b ∷ bytes)) (b ∷ bytes) ∷ pieces_behind (piece_size (b ∷ bytes) - 1) bytes

-- the values of a text
abbrev pub pieces : List ℕ → List (List ℕ)
pieces text = pieces_behind 0 text

-- What serves the code: the text behind the blanks that it begins with

abbrev pub after_blanks : List ℕ → List ℕ
after_blanks [] = []
after_blanks (b ∷ bytes) = if is_blank b then after_blanks bytes else b ∷ bytes
