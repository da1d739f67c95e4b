-- What the words of the command line ask for where the go command calls the program as its vet tool: once to hear which
-- flags there are, once which program it is, and once for each package, with the name of the file of a unit.
-- (The protocol of golang.org/x/tools/go/analysis/unitchecker. Flags have the forms of Go's package flag: one dash or
-- two, and the value behind `=` or in the next word. One that tells whether something is so may stand without a value,
-- and then it is. Of a flag that stands there twice the last counts.)
use Rattle.std.specs.Prelude.{◌≡◌, ◌++◌, ℕ, ◌^◌, ◌==◌, ◌&&◌, ◌||◌, if◌then◌else◌, nat_eq, nat_lt, not, List, [], ◌∷◌, Bool, true, false, Option, Some, None, codes, drop, is_some, length, option_and_then, option_map}
use Rattle.std.specs.List.{after_first, before_first, ends_with, position_or_len, starts_with}
use Rattle.std.specs.Option.{option_map_or}
use Rattle.std.specs.Str.{all_ascii_digits, bytes_eq}
use Rattle.std.specs.Str.Parse.{digits_value, without_leading_plus}
use Rattle.tree.specs.declared.edition.Edition.{Edition}
use Rattle.tree.specs.declared.edition.Edition.TheVariants.{First, Second}
use Rattle.command_line.specs.declared.vet_flags.VetFlag.{VetFlag}
use Rattle.command_line.specs.declared.vet_flags.VetFlag.TheVariants.{EditionNumber, Facts, Json, Lines, Tests, Reasons, Accepted, Baseline, Quiet, Keeping, WithoutLibrary}

-- what stands in a word behind its dashes, where it begins with one or two
abbrev pub behind_dashes : List ℕ → Option (List ℕ)
behind_dashes word =
    if starts_with nat_eq word (codes "--") then Some (drop 2 word)
    else if starts_with nat_eq word (codes "-") then Some (drop 1 word)
    else None

abbrev pub flag_named : List ℕ → Option VetFlag
flag_named name =
    if bytes_eq name (codes "edition") then Some EditionNumber
    else if bytes_eq name (codes "facts") then Some Facts
    else if bytes_eq name (codes "json") then Some Json
    else if bytes_eq name (codes "c") then Some Lines
    else if bytes_eq name (codes "tests") then Some Tests
    else if bytes_eq name (codes "why") then Some Reasons
    else if bytes_eq name (codes "accepted") then Some Accepted
    else if bytes_eq name (codes "baseline") then Some Baseline
    else if bytes_eq name (codes "quiet") then Some Quiet
    else if bytes_eq name (codes "keeping") then Some Keeping
    else if bytes_eq name (codes "no-std-facts") then Some WithoutLibrary
    else None

abbrev pub equals_sign : ℕ
equals_sign = 61

abbrev pub is_equals : ℕ → Bool
is_equals b = b == equals_sign

-- what stands behind the first `=`, where there is one
abbrev pub value_in : List ℕ → Option (List ℕ)
value_in text =
    if nat_lt (position_or_len is_equals text) (length text) then Some (after_first is_equals text) else None

-- the flag whose name stands before the first `=`, and what stands behind that
abbrev pub flag_of : List ℕ → Option (VetFlag × Option (List ℕ))
flag_of text = option_map (λ flag. (flag, value_in text)) (flag_named (before_first is_equals text))

-- the flag that a word is, with its value, where that stands in the word
abbrev pub flag_in : List ℕ → Option (VetFlag × Option (List ℕ))
flag_in word = option_and_then flag_of (behind_dashes word)

-- the flag tells a value, and not whether something is so
abbrev pub has_value : VetFlag → Bool
has_value EditionNumber = true
has_value Facts = true
has_value Lines = true
has_value Baseline = true
has_value Json = false
has_value Tests = false
has_value Reasons = false
has_value Accepted = false
has_value Quiet = false
has_value Keeping = false
has_value WithoutLibrary = false

-- the text has decimal digits alone, at least one, and says a number below 2 ^ 64
abbrev pub is_number : List ℕ → Bool
is_number digits = not (length digits == 0) && (all_ascii_digits digits && nat_lt (digits_value 10 digits) (2 ^ 64))

abbrev pub number_in_digits : List ℕ → Option ℕ
number_in_digits digits = if is_number digits then Some (digits_value 10 digits) else None

-- a number as Rust reads one: a `+` may stand before its digits
abbrev pub number_of : List ℕ → Option ℕ
number_of text = number_in_digits (without_leading_plus text)

abbrev pub edition_numbered : ℕ → Option Edition
edition_numbered n = if n == 1 then Some First else if n == 2 then Some Second else None

abbrev pub edition_of : List ℕ → Option Edition
edition_of text = option_and_then edition_numbered (number_of text)

-- how Go's package strconv writes that something is so, and that it is not
abbrev pub is_yes : List ℕ → Bool
is_yes text =
    bytes_eq text (codes "true") || (bytes_eq text (codes "1") || (bytes_eq text (codes "t")
    || (bytes_eq text (codes "T") || (bytes_eq text (codes "TRUE") || bytes_eq text (codes "True")))))

abbrev pub is_no : List ℕ → Bool
is_no text =
    bytes_eq text (codes "false") || (bytes_eq text (codes "0") || (bytes_eq text (codes "f")
    || (bytes_eq text (codes "F") || (bytes_eq text (codes "FALSE") || bytes_eq text (codes "False")))))

abbrev pub truth_of : List ℕ → Option Bool
truth_of text = if is_yes text then Some true else if is_no text then Some false else None

-- What the flags of a unit tell: the edition, the file of declared facts, the earlier report whose findings are
-- accepted, how many lines are shown around each place, and whether the report is JSON, test files are read, reasons
-- are told, accepted findings are told too, lines of packages without findings are left out, fields that keep are told,
-- and what is known of Go's library is left out
pub record Flags : Type 0 where
  pub edition : Option Edition
  pub facts : Option (List ℕ)
  pub baseline : Option (List ℕ)
  pub lines : Option ℕ
  pub is_json : Bool
  pub with_tests : Bool
  pub with_reasons : Bool
  pub accepted : Bool
  pub quiet : Bool
  pub tells_keeping : Bool
  pub without_library : Bool

abbrev pub no_flags : Flags
no_flags = record {
  edition = None;
  facts = None;
  baseline = None;
  lines = None;
  is_json = false;
  with_tests = false;
  with_reasons = false;
  accepted = false;
  quiet = false;
  tells_keeping = false;
  without_library = false;
}

-- the flags with this value of one of them, where it can have that
abbrev pub with_value : VetFlag → List ℕ → Flags → Option Flags
with_value EditionNumber text flags = option_map (λ edition. record flags { edition = Some edition }) (edition_of text)
with_value Facts text flags = Some (record flags { facts = Some text })
with_value Baseline text flags = Some (record flags { baseline = Some text })
with_value Lines text flags = option_map (λ lines. record flags { lines = Some lines }) (number_of text)
with_value Json text flags = option_map (λ is. record flags { is_json = is }) (truth_of text)
with_value Tests text flags = option_map (λ is. record flags { with_tests = is }) (truth_of text)
with_value Reasons text flags = option_map (λ is. record flags { with_reasons = is }) (truth_of text)
with_value Accepted text flags = option_map (λ is. record flags { accepted = is }) (truth_of text)
with_value Quiet text flags = option_map (λ is. record flags { quiet = is }) (truth_of text)
with_value Keeping text flags = option_map (λ is. record flags { tells_keeping = is }) (truth_of text)
with_value WithoutLibrary text flags = option_map (λ is. record flags { without_library = is }) (truth_of text)

-- what was told so far, and the first value that its flag can't have
pub record Told : Type 0 where
  pub flags : Flags
  pub wrong : Option (VetFlag × List ℕ)

abbrev pub nothing_told : Told
nothing_told = record { flags = no_flags; wrong = None }

abbrev pub first_wrong : Option (VetFlag × List ℕ) → VetFlag → List ℕ → Option (VetFlag × List ℕ)
first_wrong (Some wrong) flag text = Some wrong
first_wrong None flag text = Some (flag, text)

abbrev pub or_wrong : VetFlag → List ℕ → Told → Option Flags → Told
or_wrong flag text told (Some flags) = record told { flags = flags }
or_wrong flag text told None = record told { wrong = first_wrong told.wrong flag text }

-- this value of the flag is told too
abbrev pub tell : VetFlag → List ℕ → Told → Told
tell flag text told = or_wrong flag text told (with_value flag text told.flags)

-- the flag that waits for its value, and what is told, behind a word that is this flag
abbrev pub after_flag : VetFlag → Option (List ℕ) → Told → Option VetFlag × Told
after_flag flag (Some text) told = (None, tell flag text told)
after_flag flag None told = if has_value flag then (Some flag, told) else (None, tell flag (codes "true") told)

-- the same behind a word that is a flag, or the value of the flag that waits for it
abbrev pub after_word : Option VetFlag → List ℕ → Told → Option (Option VetFlag × Told)
after_word (Some flag) word told = Some (None, tell flag word told)
after_word None word told = option_map (λ read. after_flag read.0 read.1 told) (flag_in word)

-- the word names the file of a unit: it ends in `.cfg`, and does not begin with a dash
abbrev pub is_unit_file : List ℕ → Bool
is_unit_file word = ends_with nat_eq word (codes ".cfg") && not (starts_with nat_eq word (codes "-"))

-- the file of a unit is the last word
abbrev pub unit_with : Told → List ℕ → List (List ℕ) → Option (Told × List ℕ)
unit_with told word [] = if is_unit_file word then Some (told, word) else None
unit_with told word (w ∷ ws) = None

-- what these words tell, and the file of the unit, where they are flags and then that file
abbrev pub unit_after : Option VetFlag → Told → List (List ℕ) → Option (Told × List ℕ)
unit_after awaited told [] = None
unit_after awaited told (w ∷ ws) =
    option_map_or (λ next. unit_after next.0 next.1 ws) (after_word awaited w told) (unit_with told w ws)

abbrev pub slash : ℕ
slash = 47

-- what stands before the last slash of a name, and what stands behind it, by what is so of all but its first byte
abbrev pub split_behind : ℕ → List ℕ → Option (List ℕ × List ℕ) → Option (List ℕ × List ℕ)
split_behind b bs (Some parts) = Some (b ∷ parts.0, parts.1)
split_behind b bs None = if b == slash then Some ([], bs) else None

abbrev pub split_last : List ℕ → Option (List ℕ × List ℕ)
split_last [] = None
split_last (b ∷ bs) = split_behind b bs (split_last bs)

-- The folder that the go command makes for one run, where the file of a unit lies in a folder of it. (Its name begins
-- with `go-build`, and the file of each unit is its `vet.cfg`.)
abbrev pub run_folder : List ℕ → Option (List ℕ)
run_folder file =
    option_and_then (λ named. option_and_then (λ below. option_and_then (λ run.
    if bytes_eq named.1 (codes "vet.cfg") && starts_with nat_eq run.1 (codes "go-build") then Some below.0 else None)
    (split_last below.0)) (split_last named.0)) (split_last file)

-- The go command runs each unit in the folder of its package, so a relative name would mean another file in each.
abbrev pub is_absolute : List ℕ → Bool
is_absolute name = starts_with nat_eq name (codes "/")

abbrev pub if_relative : VetFlag → Option (List ℕ) → Option (VetFlag × List ℕ)
if_relative flag None = None
if_relative flag (Some name) = if is_absolute name then None else Some (flag, name)

abbrev pub or_next : Option (VetFlag × List ℕ) → Option (VetFlag × List ℕ) → Option (VetFlag × List ℕ)
or_next (Some wrong) next = Some wrong
or_next None next = next

-- the first name of a file that can't be meant
abbrev pub relative_name : Flags → List ℕ → Option (VetFlag × List ℕ)
relative_name flags file =
    if is_some (run_folder file) then or_next (if_relative Facts flags.facts) (if_relative Baseline flags.baseline)
    else None

-- what the go command asks for; a value that a flag can't have is told in place of a unit, that of this file
pub data VetCall : Type 0 where
  asks_flags : VetCall
  asks_version : VetCall
  asks_unit : Flags → List ℕ → VetCall
  has_wrong : VetFlag → List ℕ → (file : List ℕ) → VetCall

abbrev pub unit_or_wrong : Flags → List ℕ → Option (VetFlag × List ℕ) → VetCall
unit_or_wrong flags file None = asks_unit flags file
unit_or_wrong flags file (Some wrong) = has_wrong wrong.0 wrong.1 file

-- a value that is wrong by itself goes before a name that is relative
abbrev pub call_told : Told → List ℕ → VetCall
call_told told file = unit_or_wrong told.flags file (or_next told.wrong (relative_name told.flags file))

abbrev pub unit_call : List (List ℕ) → Option VetCall
unit_call words = option_map (λ u. call_told u.0 u.1) (unit_after None nothing_told words)

-- there is one word, and it is this one
abbrev pub is_only : List ℕ → List (List ℕ) → Bool
is_only word [] = false
is_only word (w ∷ []) = bytes_eq w word
is_only word (w ∷ v ∷ ws) = false

-- what the words ask for, where the go command could have written them
abbrev pub vet_call : List (List ℕ) → Option VetCall
vet_call words =
    if is_only (codes "-flags") words then Some asks_flags
    else if is_only (codes "-V=full") words then Some asks_version
    else unit_call words

-- no words that begin with this one are such a call
abbrev pub IsNoCall : List ℕ → Type 0
IsNoCall word = (words : List (List ℕ)) → vet_call (word ∷ words) ≡ None

-- the flag as it is written, and the values that it can have
abbrev pub flag_form : VetFlag → List ℕ
flag_form EditionNumber = codes "-edition=N (N is 1 or 2)"
flag_form Facts = codes "-facts=FILE (FILE is an absolute name)"
flag_form Json = codes "-json (true or false)"
flag_form Lines = codes "-c=N (N is a number of lines)"
flag_form Tests = codes "-tests (true or false)"
flag_form Reasons = codes "-why (true or false)"
flag_form Accepted = codes "-accepted (true or false)"
flag_form Baseline = codes "-baseline=FILE (FILE is an absolute name)"
flag_form Quiet = codes "-quiet (true or false)"
flag_form Keeping = codes "-keeping (true or false)"
flag_form WithoutLibrary = codes "-no-std-facts (true or false)"

-- what is told of a value that its flag can't have
abbrev pub wrong_text : VetFlag → List ℕ → List ℕ
wrong_text flag value =
    codes "ctxvet: invalid value '" ++ (value ++ (codes "' for " ++ (flag_form flag
    ++ codes "\n")))
