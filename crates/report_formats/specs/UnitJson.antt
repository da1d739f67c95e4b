-- A unit's report as JSON: one object with the unit's name, and a newline.
-- (golang.org/x/tools/go/analysis, JSONTree of internal/analysisflags. What the text of an object is, with the escapes
-- in its strings, is what `serde_json` writes for it.)
use Rattle.std.specs.Prelude.{ℕ, if◌then◌else◌, List, [], ◌∷◌, ◌++◌, Option, slice_get, map, filter, decimal, codes}
use Rattle.serde_json.specs.Data.{Data, string}
use Rattle.serde_json.specs.Written.{compact_text}
use Rattle.lexer.specs.Place.{line_of, column_of}
use Rattle.lexer.specs.declared.source.Source.{Source}
use Rattle.accepting.specs.Findings.{FindingEntry, FoundEntry}
use Rattle.report.specs.Codes.{code_number, code_words}
use Rattle.report.specs.Entries.{Entry}
use Rattle.report.specs.Notes.{note_words, source_of}
use Rattle.report.specs.declared.codes.Wording.{Wording}
use Rattle.report.specs.declared.codes.Wording.TheVariants.{First, Second}
use Rattle.report.specs.declared.notes.Note.{Note}
use Rattle.report.specs.ReportText.{name_of, bytes_of}
use Rattle.format_parts.specs.Objects.{object_of, list_of}
use Rattle.report_formats.specs.ReportLines.{reason_shown}
use Rattle.format_parts.specs.Fixes.{fix_members, told_fix}
use Rattle.format_parts.specs.NameEnds.{name_before}
use Rattle.format_parts.specs.Told.{is_told}
use Rattle.format_parts.specs.declared.style.Style.{Style}
use Rattle.suggested_fixes.specs.declared.edits.Fix.{Fix}

-- `FILE:LINE:COLUMN`, the column in bytes
abbrev pub position_at : List ℕ → List ℕ → List ℕ → List ℕ
position_at file line column = file ++ (codes ":" ++ (line ++ (codes ":" ++ column)))

abbrev pub position_in : Option Source → ℕ → List ℕ
position_in source offset =
    position_at (name_of source)
    (decimal (line_of (bytes_of source) offset))
    (decimal (column_of (bytes_of source) offset))

-- what stands before the text of a code: by the first edition of the rules nothing, by the second one the name
abbrev pub name_in : Wording → List ℕ → List ℕ
name_in First name = []
name_in Second name = name_before name

-- what is said
abbrev pub said_in : Wording → Entry → List ℕ
said_in wording said = name_in wording said.name ++ code_words wording said.code

-- a note, by its place and its text
abbrev pub related_value : Wording → Note → Data
related_value wording n = object_of (
    (codes "posn", string (position_in (source_of n) n.offset))
    ∷ (codes "message", string (note_words wording n.text))
    ∷ [])

abbrev pub related_members : Style → List Note → List (List ℕ × Data)
related_members style notes =
    if style.with_reasons then (codes "related", list_of (map (related_value style.wording) notes)) ∷ [] else []

-- a finding by its code and its place
abbrev pub found_members : Option Source → Entry → List (List ℕ × Data)
found_members source said =
    (codes "category", string (code_number said.code)) ∷ (codes "posn", string (position_in source said.offset)) ∷ []

-- what is said of it, and the reason for which it is accepted
abbrev pub message_members : Wording → FindingEntry → List (List ℕ × Data)
message_members wording f = (codes "message", string (said_in wording f.said ++ reason_shown f.accepted)) ∷ []

-- a finding of a unit with these sources
abbrev pub unit_finding : Style → List Fix → List Source → FindingEntry → Data
unit_finding style fixes sources f = object_of (
    found_members (slice_get sources f.said.file) f.said
    ++ (message_members style.wording f
    ++ (related_members style f.notes
    ++ fix_members (told_fix style.wording fixes (slice_get sources f.said.file) f.said))))

abbrev pub unit_findings : Style → List Fix → List Source → List FindingEntry → List Data
unit_findings style fixes sources findings = map (unit_finding style fixes sources) (filter (is_told style) findings)

-- the findings of this tool in the unit of this name
abbrev pub unit_value : List ℕ → List Data → Data
unit_value name findings = object_of ((name, object_of ((codes "ctxvet", list_of findings) ∷ [])) ∷ [])

abbrev pub unit_json_of : List ℕ → List Data → List ℕ
unit_json_of name findings = compact_text (unit_value name findings) ++ codes "\n"

abbrev pub unit_json : Style → List Fix → List ℕ → FoundEntry → List ℕ
unit_json style fixes name p = unit_json_of name (unit_findings style fixes p.sources p.findings)
