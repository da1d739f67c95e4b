-- How often a way has come to a loop, as JSON of version 2 tells it with each note of a loop: how many notes of loops
-- are told at its place up to this one.
use Rattle.std.specs.Prelude.{ℕ, ◌+◌, ◌==◌, Bool, false, ◌&&◌, if◌then◌else◌, List, [], ◌∷◌, filter, length, Option, None, Some, codes}
use Rattle.std.specs.Str.{bytes_eq}
use Rattle.serde_json.specs.Data.{Data}
use Rattle.report.specs.Notes.{source_of}
use Rattle.report.specs.ReportText.{name_of}
use Rattle.report.specs.declared.codes.Wording.{Wording}
use Rattle.report.specs.declared.codes.Wording.TheVariants.{First, Second}
use Rattle.report.specs.declared.notes.Note.{Note}
use Rattle.report.specs.declared.notes.NoteText.{NoteText}
use Rattle.report.specs.declared.notes.NoteText.TheVariants.{Words, Named, Finding}
use Rattle.format_parts.specs.Objects.{whole}
use Rattle.report_json.specs.NoteKinds.{is_either}

abbrev pub is_loop : NoteText → Bool
is_loop (Words words) = is_either words.now (codes "the loop goes on") (codes "the loop ends")
is_loop (Named before name after) = false
is_loop (Finding code name) = false

-- two notes stand at one place: in files of one name, at one offset
abbrev pub is_at : (place other : Note) → Bool
is_at place other =
    (place.offset == other.offset) && bytes_eq (name_of (source_of place)) (name_of (source_of other))

-- the turn that a note tells, by the notes before it
abbrev pub turn_of : (before : List Note) → Note → ℕ
turn_of before n = 1 + length (filter (λ other. is_loop other.text && is_at n other) before)

abbrev pub told_turn : Wording → (before : List Note) → Note → Option ℕ
told_turn First before n = None
told_turn Second before n = if is_loop n.text then Some (turn_of before n) else None

abbrev pub turn_members : Option ℕ → List (List ℕ × Data)
turn_members None = []
turn_members (Some turn) = (codes "turn", whole turn) ∷ []
