-- Which module a folder belongs to: the path in a file `go.mod`, there or above, or none.
-- (https://go.dev/ref/mod#go-mod-file: words stand apart by white space, a line `module PATH` says the path, which may
-- stand in quotes, and a comment begins with two slashes.)
use Rattle.std.specs.Prelude.{◌≡◌, ◌⊎◌, ℕ, ◌-◌, ◌==◌, ◌&&◌, ◌||◌, not, if◌then◌else◌, nat_eq, nat_le, Bool, true, false, List, [], ◌∷◌, ◌++◌, Option, Some, None, codes, drop, take, length}
use Rattle.std.specs.List.{after_first, before_first, ends_with, position_or_len, starts_with}
use Rattle.std.specs.Option.{unwrap_or}
use Rattle.std.specs.Str.{bytes_eq}
use Rattle.lexer.specs.Bytes.{carriage_return, line_feed, space, tab}
use Rattle.folders.specs.GoFiles.{source_name}
use Rattle.folders.specs.ReadFiles.{bytes_read, name_read}
use Rattle.folders.specs.declared.whole_files.ReadFile.{ReadFile}

abbrev pub ends_line : ℕ → Bool
ends_line b = b == line_feed

-- white space inside a line
abbrev pub is_blank : ℕ → Bool
is_blank b = b == space || (b == tab || b == carriage_return)

abbrev pub is_in_word : ℕ → Bool
is_in_word b = not (is_blank b)

-- the line from its first word on
abbrev pub from_word : List ℕ → List ℕ
from_word line = drop (position_or_len is_in_word line) line

-- its first word, and what stands behind that
abbrev pub first_word : List ℕ → List ℕ
first_word line = before_first is_blank (from_word line)

abbrev pub behind_word : List ℕ → List ℕ
behind_word line = after_first is_blank (from_word line)

-- the word stands between two of these quotes
abbrev pub is_between : List ℕ → List ℕ → Bool
is_between quote word =
    nat_le 2 (length word) && (starts_with nat_eq word quote && ends_with nat_eq word quote)

abbrev pub is_quoted : List ℕ → Bool
is_quoted word = is_between (codes "\"") word || is_between (codes "`") word

-- the path that a word says; a comment says none
abbrev pub path_in : List ℕ → List ℕ
path_in word =
    if starts_with nat_eq word (codes "//") then []
    else if is_quoted word then take (length word - 2) (drop 1 word)
    else word

-- the path that a line says, where its first word is `module`
abbrev pub module_of : List ℕ → Option (List ℕ)
module_of line =
    if bytes_eq (first_word line) (codes "module") then Some (path_in (first_word (behind_word line))) else None

-- the same of the line that begins here, where one does
abbrev pub module_at : Bool → List ℕ → Option (List ℕ)
module_at true text = module_of (before_first ends_line text)
module_at false text = None

-- the path that the first such line says; whether a line begins with the text is told
abbrev pub module_from : Bool → List ℕ → List ℕ
module_from starts [] = []
module_from starts (b ∷ bs) = unwrap_or (module_at starts (b ∷ bs)) (module_from (ends_line b) bs)

-- the path of a module that this text of a file `go.mod` says, or nothing
abbrev pub module_in : List ℕ → List ℕ
module_in = module_from true

-- a folder, or one above it: what stands before one of the slashes of its name
abbrev pub IsAbove : List ℕ → List ℕ → Type 0
IsAbove folder place = (place ≡ folder) ⊎ ((rest : List ℕ) × (folder ≡ place ++ (codes "/" ++ rest)))

-- the file of a module, as a report names it
abbrev pub module_file : List ℕ → List ℕ
module_file place = source_name place (codes "go.mod")

-- the file `go.mod` of this folder was read, and it says this path
pub record IsSaidIn (place path : List ℕ) : Type 0 where
  pub file : ReadFile
  pub is_named : name_read file ≡ module_file place
  pub is_path : path ≡ module_in (bytes_read file)

-- a name that does not begin with a slash is that of a folder below the current one
abbrev pub is_relative : List ℕ → Bool
is_relative folder = not (starts_with nat_eq folder (codes "/"))

-- the current folder, which stands above it then
abbrev pub IsHere : List ℕ → List ℕ → Type 0
IsHere folder place = (is_relative folder ≡ true) × (place ≡ codes ".")

-- a folder in which it is looked for the file of its module
abbrev pub IsLookedAt : List ℕ → List ℕ → Type 0
IsLookedAt folder place = IsAbove folder place ⊎ IsHere folder place

-- such a file
abbrev pub IsModuleFileOf : List ℕ → List ℕ → Type 0
IsModuleFileOf folder name = (place : List ℕ) × IsLookedAt folder place × (name ≡ module_file place)

-- The path of its module: what such a file there or above says, or nothing. That it is the nearest one, and that there
-- is none where nothing is said, no contract can say: which files are not there is the system's.
abbrev pub IsModulePath : List ℕ → List ℕ → Type 0
IsModulePath folder path =
    (path ≡ []) ⊎ ((place : List ℕ) × IsLookedAt folder place × IsSaidIn place path)
