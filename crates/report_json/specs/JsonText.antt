-- The text of a report as JSON (RFC 8259): one object, and a newline. What the text of an object is, with the escapes
-- in its strings, is what `serde_json` writes for it (`compact_text`). All findings stand in it, those that are
-- accepted with their reasons. By the first edition of the rules it is a report of version 1. By the second one it is
-- of version 2, which has the edition too, where names and steps end, the functions around findings, the bindings of
-- which they tell, of which kind notes are, which turns of loops they tell, the lines of ways, and suggested fixes.
use Rattle.std.specs.Prelude.{ℕ, List, [], ◌∷◌, ◌++◌, Bool, true, false, Option, None, Some, option_map, slice_get, map, codes}
use Rattle.serde_json.specs.Data.{Data, boolean, string}
use Rattle.serde_json.specs.Written.{compact_text}
use Rattle.accepting.specs.Findings.{AcceptedBy, FindingEntry, FoundEntry, verdict_of}
use Rattle.accepting.specs.declared.findings.Verdict.{Verdict}
use Rattle.accepting.specs.declared.findings.Verdict.TheVariants.{Yes, Accepted, No}
use Rattle.lexer.specs.declared.source.Place.{Place}
use Rattle.lexer.specs.declared.source.Source.{Source}
use Rattle.lexer.specs.Place.{line_of, column_of}
use Rattle.report.specs.Codes.{code_number, code_words}
use Rattle.report.specs.Entries.{Entry}
use Rattle.report.specs.Notes.{note_words, source_of}
use Rattle.report.specs.ReportText.{name_of, bytes_of}
use Rattle.report.specs.declared.codes.Wording.{Wording}
use Rattle.report.specs.declared.codes.Wording.TheVariants.{First, Second}
use Rattle.report.specs.declared.notes.Note.{Note}
use Rattle.report.specs.declared.notes.NoteText.{NoteText}
use Rattle.function_spans.specs.Calls.{bound_by}
use Rattle.format_parts.specs.Fixes.{fix_members, told_fix}
use Rattle.format_parts.specs.NameEnds.{told_end}
use Rattle.report_json.specs.Causes.{count_from, number_from, told_cause}
use Rattle.report_json.specs.InFunctions.{around_members}
use Rattle.report_json.specs.NoteKinds.{kind_text, taken_in, taken_members}
use Rattle.report_json.specs.StepEnds.{byte_place, step_end_place}
use Rattle.report_json.specs.Turns.{told_turn, turn_members}
use Rattle.report_json.specs.WayLines.{lines_members, told_way}
use Rattle.format_parts.specs.Objects.{object_of, list_of, whole}
use Rattle.format_parts.specs.Told.{notes_told, reason_text}
use Rattle.format_parts.specs.declared.style.Style.{Style}
use Rattle.suggested_fixes.specs.declared.edits.Fix.{Fix}

-- a place in a file, by the file's name, the line, and the column in bytes
abbrev pub place_members_at : List ℕ → ℕ → ℕ → List (List ℕ × Data)
place_members_at name line column =
    (codes "file", string name) ∷ (codes "line", whole line) ∷ (codes "column", whole column) ∷ []

-- the place of an offset in a source
abbrev pub place_members : Option Source → ℕ → List (List ℕ × Data)
place_members source offset =
    place_members_at (name_of source) (line_of (bytes_of source) offset) (column_of (bytes_of source) offset)

-- where a name or a step ends, if that is told: the byte behind it
abbrev pub end_members : Option Place → List (List ℕ × Data)
end_members None = []
end_members (Some end) = (codes "end_line", whole end.line) ∷ (codes "end_column", whole end.column) ∷ []

-- where the name of what is said ends, if that is told
abbrev pub byte_end : Wording → Option Source → Entry → Option Place
byte_end wording source said = option_map (byte_place source) (told_end wording source said)

-- the code, the name and the text
abbrev pub code_members : Wording → Entry → List (List ℕ × Data)
code_members wording said =
    (codes "code", string (code_number said.code))
    ∷ (codes "name", string said.name)
    ∷ (codes "text", string (code_words wording said.code))
    ∷ []

-- what is said of a source
abbrev pub said_members : Wording → Option Source → Entry → List (List ℕ × Data)
said_members wording source said =
    place_members source said.offset
    ++ (end_members (byte_end wording source said) ++ code_members wording said)

-- of which kind a note is, by its text; and whether the way takes the branch, where it is one
abbrev pub kind_members : Wording → NoteText → List (List ℕ × Data)
kind_members First text = []
kind_members Second text = (codes "kind", string (kind_text text)) ∷ taken_members (taken_in text)

-- a note behind others: its place, its end, its kind, the turn of a loop, and what it says
abbrev pub note_value : Wording → (before : List Note) → Note → Data
note_value wording before n = object_of (
    place_members (source_of n) n.offset
    ++ (end_members (step_end_place wording n)
    ++ (kind_members wording n.text
    ++ (turn_members (told_turn wording before n)
    ++ ((codes "text", string (note_words wording n.text)) ∷ [])))))

abbrev pub note_values : Wording → (before notes : List Note) → List Data
note_values wording before [] = []
note_values wording before (n ∷ ns) =
    note_value wording before n ∷ note_values wording (before ++ (n ∷ [])) ns

-- the reason for which a finding is accepted, if it is
abbrev pub reason_members : Option AcceptedBy → List (List ℕ × Data)
reason_members None = []
reason_members (Some by) = (codes "accepted", string (reason_text by)) ∷ []

-- the name of the call by which a value was obtained or made, as it stands there, if one is called
abbrev pub by_members : Option (List ℕ) → List (List ℕ × Data)
by_members None = []
by_members (Some name) = (codes "by", string name) ∷ []

-- where the binding of which a finding tells was made, by its note, its number, and by what
abbrev pub cause_value : (number : ℕ) → Note → Data
cause_value number n = object_of (
    place_members (source_of n) n.offset
    ++ ((codes "number", whole number) ∷ by_members (bound_by (bytes_of (source_of n)) n.offset)))

abbrev pub cause_members : (number : ℕ) → Option Note → List (List ℕ × Data)
cause_members number None = []
cause_members number (Some n) = (codes "cause", cause_value number n) ∷ []

-- of one of a package's findings, where so many bindings are told of before that package
abbrev pub told_members : Style → (count : ℕ) → (all : List FindingEntry) → FindingEntry → List (List ℕ × Data)
told_members style count all f = cause_members (number_from style count [] all f) (told_cause style f)

-- its notes, where they are asked for
abbrev pub why_members : Bool → Wording → List Note → List (List ℕ × Data)
why_members true wording notes = (codes "why", list_of (note_values wording [] notes)) ∷ []
why_members false wording notes = []

-- what is told of a finding before its binding: what is said, by what it is accepted, and the function around it
abbrev pub first_members : Style → List Source → FindingEntry → List (List ℕ × Data)
first_members style sources f =
    said_members style.wording (slice_get sources f.said.file) f.said
    ++ (reason_members f.accepted ++ around_members style.wording (slice_get sources f.said.file) f.said)

-- the lines of its way, in its source
abbrev pub way_members : Style → Option Source → FindingEntry → List (List ℕ × Data)
way_members style source f = lines_members (bytes_of source) (told_way style f)

-- and behind it: its notes, the lines of its way, and its fix
abbrev pub last_members : Style → List Fix → List Source → FindingEntry → List (List ℕ × Data)
last_members style fixes sources f =
    why_members style.with_reasons style.wording (notes_told style f)
    ++ (way_members style (slice_get sources f.said.file) f
    ++ fix_members (told_fix style.wording fixes (slice_get sources f.said.file) f.said))

-- one of all findings of a package with these sources, where so many bindings are told of before that package
abbrev pub finding_value : Style → List Fix → (count : ℕ) → List FindingEntry → List Source → FindingEntry → Data
finding_value style fixes count all sources f =
    object_of (first_members style sources f ++ (told_members style count all f ++ last_members style fixes sources f))

-- what is said of a package before its findings: its import path, its verdict, and, of one that is yes, the fields in
-- which it keeps cancel functions
abbrev pub verdict_members : Verdict → List (List ℕ) → List (List ℕ × Data)
verdict_members Yes keeping = (codes "yes", boolean true) ∷ (codes "keeping", list_of (map string keeping)) ∷ []
verdict_members Accepted keeping =
    (codes "yes", boolean false) ∷ (codes "accepted", boolean true) ∷ (codes "keeping", list_of []) ∷ []
verdict_members No keeping = (codes "yes", boolean false) ∷ (codes "keeping", list_of []) ∷ []

-- one package, before which so many bindings are told of
abbrev pub package_value : Style → List Fix → (count : ℕ) → FoundEntry → Data
package_value style fixes count p = object_of (
    (codes "path", string p.path)
    ∷ (verdict_members (verdict_of p.findings) p.keeping
    ++ ((codes "diagnostics", list_of (map (finding_value style fixes count p.findings p.sources) p.findings)) ∷ [])))

abbrev pub package_values : Style → List Fix → (count : ℕ) → List FoundEntry → List Data
package_values style fixes count [] = []
package_values style fixes count (p ∷ ps) =
    package_value style fixes count p ∷ package_values style fixes (count_from style count [] p.findings) ps

-- of which version the report is, and by which edition of the rules, which the first version does not tell
abbrev pub version_members : Wording → List (List ℕ × Data)
version_members First = (codes "version", whole 1) ∷ []
version_members Second = (codes "version", whole 2) ∷ (codes "edition", whole 2) ∷ []

-- the whole report
abbrev pub json_of : Wording → List Data → List ℕ
json_of wording packages =
    compact_text (object_of ((codes "packages", list_of packages) ∷ version_members wording)) ++ codes "\n"

abbrev pub json_text : Style → List Fix → List FoundEntry → List ℕ
json_text style fixes packages = json_of style.wording (package_values style fixes 0 packages)
