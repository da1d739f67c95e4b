-- Of which kind a note is, as a word, by its text: where the variable is obtained or made, where work is started, a
-- branch of the way, another finding, or anything else. A branch says too whether it is taken: whether the condition
-- holds, the loop goes on, or a clause is entered.
use Rattle.std.specs.Prelude.{ℕ, Bool, true, false, ◌||◌, if◌then◌else◌, List, [], ◌∷◌, codes, Option, Some, None}
use Rattle.std.specs.Str.{bytes_eq}
use Rattle.serde_json.specs.Data.{Data, boolean}
use Rattle.report.specs.declared.notes.NoteText.{NoteText}
use Rattle.report.specs.declared.notes.NoteText.TheVariants.{Words, Named, Finding}

-- one of two texts
abbrev pub is_either : (text one other : List ℕ) → Bool
is_either text one other = bytes_eq text one || bytes_eq text other

abbrev pub words_kind : List ℕ → List ℕ
words_kind words =
    if bytes_eq words (codes "cancel is obtained") then codes "obtained"
    else if bytes_eq words (codes "group is made") then codes "made"
    else if bytes_eq words (codes "work is started") then codes "started"
    else if is_either words (codes "the condition holds") (codes "the condition does not hold") then codes "condition"
    else if is_either words (codes "the loop goes on") (codes "the loop ends") then codes "loop"
    else if is_either words (codes "this clause is entered") (codes "no clause is entered") then codes "clause"
    else codes "note"

abbrev pub kind_text : NoteText → List ℕ
kind_text (Words words) = words_kind words.now
kind_text (Named before name after) = codes "note"
kind_text (Finding code name) = codes "finding"

-- whether a branch is taken
abbrev pub taken_by : List ℕ → Option Bool
taken_by words =
    if bytes_eq words (codes "the condition holds") then Some true
    else if bytes_eq words (codes "the condition does not hold") then Some false
    else if bytes_eq words (codes "the loop goes on") then Some true
    else if bytes_eq words (codes "the loop ends") then Some false
    else if bytes_eq words (codes "this clause is entered") then Some true
    else if bytes_eq words (codes "no clause is entered") then Some false
    else None

abbrev pub taken_in : NoteText → Option Bool
taken_in (Words words) = taken_by words.now
taken_in (Named before name after) = None
taken_in (Finding code name) = None

abbrev pub taken_members : Option Bool → List (List ℕ × Data)
taken_members None = []
taken_members (Some is_taken) = (codes "taken", boolean is_taken) ∷ []
