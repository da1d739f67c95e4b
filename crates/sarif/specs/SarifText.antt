-- The text of a report in SARIF 2.1.0 (OASIS, "Static Analysis Results Interchange Format"): one run of `ctxvet`, and a
-- newline. The text of an object is what `serde_json` writes for it (`compact_text`). A finding that is accepted is a
-- result that is suppressed (section 3.35). The notes of a way through a body are one code flow, and others are related
-- locations. By the second edition of the rules it says more: the version, help for each rule, where names end,
-- a fingerprint of each finding, and suggested fixes.
use Rattle.std.specs.Prelude.{ℕ, Bool, true, false, List, [], ◌∷◌, ◌++◌, Option, None, Some, option_map, slice_get, if◌then◌else◌, map, flat_map, codes, string_bytes}
use Rattle.serde_json.specs.Data.{Data, string}
use Rattle.serde_json.specs.Written.{compact_text}
use Rattle.accepting.specs.Findings.{AcceptedBy, FindingEntry, FoundEntry, line, baseline}
use Rattle.lexer.specs.declared.source.Source.{Source}
use Rattle.lexer.specs.declared.source.Place.{Place}
use Rattle.lexer.specs.Place.{line_of}
use Rattle.report.specs.Codes.{code_number, code_words}
use Rattle.report.specs.Entries.{Entry}
use Rattle.report.specs.Notes.{note_words, source_of}
use Rattle.report.specs.ReportText.{name_of, bytes_of}
use Rattle.report.specs.declared.codes.DiagnosticCode.{DiagnosticCode}
use Rattle.report.specs.declared.codes.Wording.{Wording}
use Rattle.report.specs.declared.codes.Wording.TheVariants.{First, Second}
use Rattle.report.specs.declared.notes.Note.{Note}
use Rattle.format_parts.specs.Objects.{object_of, list_of, whole}
use Rattle.sarif.specs.CodePoints.{code_point_column}
use Rattle.format_parts.specs.FileUris.{is_absolute, file_uri}
use Rattle.sarif.specs.Fingerprints.{fingerprint}
use Rattle.format_parts.specs.Fixes.{fix_words, told_fix}
use Rattle.format_parts.specs.NameEnds.{name_before, told_end}
use Rattle.sarif.specs.RuleHelp.{help_markdown, help_text, meaning}
use Rattle.sarif.specs.SarifCodes.{level, rule_codes, rule_index, rule_text, tells_way, topic}
use Rattle.format_parts.specs.Told.{notes_told, reason_text}
use Rattle.format_parts.specs.declared.style.Style.{Style}
use Rattle.suggested_fixes.specs.declared.edits.Edit.{Edit}
use Rattle.suggested_fixes.specs.declared.edits.Fix.{Fix}
use Rattle.sarif.specs.declared.version.TheConstants.{INFORMATION_URI, VERSION}

-- `NAME TEXT`, or `TEXT` where there is no name
abbrev pub message : Wording → Entry → List ℕ
message wording said = name_before said.name ++ code_words wording said.code

-- the folder that a relative name is in, as a member of the object for a file
abbrev pub base_members : Bool → List (List ℕ × Data)
base_members absolute = if absolute then [] else (codes "uriBaseId", string (codes "%SRCROOT%")) ∷ []

-- a file by its name
abbrev pub artifact : List ℕ → Data
artifact name = object_of ((codes "uri", string (file_uri name)) ∷ base_members (is_absolute name))

-- an object that has but this one member
abbrev pub only : List ℕ → Data → Data
only key value = object_of ((key, value) ∷ [])

-- where a region ends, if that is told
abbrev pub end_members : Option Place → List (List ℕ × Data)
end_members None = []
end_members (Some end) = (codes "endLine", whole end.line) ∷ (codes "endColumn", whole end.column) ∷ []

-- a place in a file, by the file's name, the line, and the column in code points, and where its region ends
abbrev pub location_members : List ℕ → ℕ → ℕ → Option Place → List (List ℕ × Data)
location_members name start_line start_column end = (
  codes "physicalLocation",
  object_of (
      (codes "artifactLocation", artifact name)
      ∷ (
        codes "region",
        object_of (
            (codes "startLine", whole start_line) ∷ (codes "startColumn", whole start_column) ∷ end_members end),
      )
      ∷ []),
) ∷ []

-- the place of an offset in a source, and where its region ends
abbrev pub location_to : Option Source → ℕ → Option Place → List (List ℕ × Data)
location_to source offset =
    location_members (name_of source) (line_of (bytes_of source) offset) (code_point_column (bytes_of source) offset)

-- the place alone
abbrev pub location_of : Option Source → ℕ → List (List ℕ × Data)
location_of source offset = location_to source offset None

-- an offset of a source, as a line and a column in code points
abbrev pub place_at : Option Source → ℕ → Place
place_at source offset = record {
  line = line_of (bytes_of source) offset;
  column = code_point_column (bytes_of source) offset;
}

-- where the name of what is said ends, if that is told
abbrev pub end_place : Wording → Option Source → Entry → Option Place
end_place wording source said = option_map (place_at source) (told_end wording source said)

-- where what is said of a source stands
abbrev pub said_location : Wording → Option Source → Entry → List (List ℕ × Data)
said_location wording source said = location_to source said.offset (end_place wording source said)

-- what is said of a source
abbrev pub result_members : Wording → Option Source → Entry → List (List ℕ × Data)
result_members wording source said =
    (codes "ruleId", string (code_number said.code))
    ∷ (codes "ruleIndex", whole (rule_index said.code))
    ∷ (codes "level", string (level said.code))
    ∷ (codes "message", only (codes "text") (string (message wording said)))
    ∷ (codes "locations", list_of (object_of (said_location wording source said) ∷ []))
    ∷ []

-- by what a finding is known again
abbrev pub fingerprint_members : Wording → Option Source → Entry → List (List ℕ × Data)
fingerprint_members First source said = []
fingerprint_members Second source said =
    (codes "partialFingerprints", only (codes "ctxvet/v1") (string (fingerprint source said))) ∷ []

-- where a finding is accepted: in its source, or elsewhere
abbrev pub kind_text : AcceptedBy → List ℕ
kind_text (line reason) = codes "inSource"
kind_text baseline = codes "external"

abbrev pub suppression : AcceptedBy → Data
suppression by =
    object_of ((codes "kind", string (kind_text by)) ∷ (codes "justification", string (reason_text by)) ∷ [])

abbrev pub suppression_members : Option AcceptedBy → List (List ℕ × Data)
suppression_members None = []
suppression_members (Some by) = (codes "suppressions", list_of (suppression by ∷ [])) ∷ []

-- the place of a note, and what it says
abbrev pub note_location : Wording → Note → Data
note_location wording n = object_of (
    location_of (source_of n) n.offset
    ++ ((codes "message", only (codes "text") (string (note_words wording n.text))) ∷ []))

-- a note by itself, or as a step of a way
abbrev pub told_note : Wording → (is_step : Bool) → Note → Data
told_note wording true n = only (codes "location") (note_location wording n)
told_note wording false n = note_location wording n

-- these notes, as the steps of one way or by themselves
abbrev pub notes_member : (are_steps : Bool) → List Data → List ℕ × Data
notes_member true notes = (
  codes "codeFlows",
  list_of (only (codes "threadFlows") (list_of (only (codes "locations") (list_of notes) ∷ [])) ∷ []),
)
notes_member false notes = (codes "relatedLocations", list_of notes)

-- the notes of a diagnostic with this code, if there are some
abbrev pub note_members : Wording → DiagnosticCode → List Note → List (List ℕ × Data)
note_members wording code [] = []
note_members wording code (n ∷ ns) =
    notes_member (tells_way code) (map (told_note wording (tells_way code)) (n ∷ ns)) ∷ []

-- from a place to another one
abbrev pub span_members : (start end : Place) → List (List ℕ × Data)
span_members start end =
    (codes "startLine", whole start.line)
    ∷ (codes "startColumn", whole start.column)
    ∷ (codes "endLine", whole end.line)
    ∷ (codes "endColumn", whole end.column)
    ∷ []

-- what an edit of a source deletes, and what it inserts there
abbrev pub replacement : Option Source → Edit → Data
replacement source edit = object_of (
    (codes "deletedRegion", object_of (span_members (place_at source edit.start) (place_at source edit.end)))
    ∷ (codes "insertedContent", only (codes "text") (string (string_bytes edit.new)))
    ∷ [])

-- the edits of a source
abbrev pub change : Option Source → List Edit → Data
change source edits = object_of (
    (codes "artifactLocation", artifact (name_of source))
    ∷ (codes "replacements", list_of (map (replacement source) edits))
    ∷ [])

abbrev pub fix_value : Option Source → Fix → Data
fix_value source fix = object_of (
    (codes "description", only (codes "text") (string (fix_words fix.kind)))
    ∷ (codes "artifactChanges", list_of (change source fix.edits.items ∷ []))
    ∷ [])

-- the fix of a finding in this source, if it has one
abbrev pub fixes_members : Option Source → Option Fix → List (List ℕ × Data)
fixes_members source None = []
fixes_members source (Some fix) = (codes "fixes", list_of (fix_value source fix ∷ [])) ∷ []

-- that of what is said of it
abbrev pub told_fixes : Wording → List Fix → Option Source → Entry → List (List ℕ × Data)
told_fixes wording fixes source said = fixes_members source (told_fix wording fixes source said)

-- a finding of a package with these sources
abbrev pub result_value : Style → List Fix → List Source → FindingEntry → Data
result_value style fixes sources f = object_of (
    result_members style.wording (slice_get sources f.said.file) f.said
    ++ (fingerprint_members style.wording (slice_get sources f.said.file) f.said
    ++ (suppression_members f.accepted
    ++ (told_fixes style.wording fixes (slice_get sources f.said.file) f.said
    ++ note_members style.wording f.said.code (notes_told style f)))))

-- the findings of one package
abbrev pub package_results : Style → List Fix → FoundEntry → List Data
package_results style fixes p = map (result_value style fixes p.sources) p.findings

-- what is said of a rule beside its text
abbrev pub detail_members : Wording → DiagnosticCode → List (List ℕ × Data)
detail_members First code = []
detail_members Second code =
    (codes "fullDescription", only (codes "text") (string (meaning code)))
    ∷ (
      codes "help",
      object_of (
          (codes "text", string (help_text code)) ∷ (codes "markdown", string (help_markdown code)) ∷ []),
    )
    ∷ (codes "defaultConfiguration", only (codes "level") (string (level code)))
    ∷ (codes "properties", only (codes "tags") (list_of (string (codes "go") ∷ string (topic code) ∷ [])))
    ∷ []

-- the rule of a code
abbrev pub rule_value : Wording → DiagnosticCode → Data
rule_value wording code = object_of (
    (codes "id", string (code_number code))
    ∷ (codes "shortDescription", only (codes "text") (string (rule_text wording code)))
    ∷ detail_members wording code)

-- where more stands about the program, if that is set
abbrev pub information_members : (uri : List ℕ) → List (List ℕ × Data)
information_members [] = []
information_members (b ∷ bs) = (codes "informationUri", string (b ∷ bs)) ∷ []

-- which program found the results
abbrev pub tool_members : Wording → List (List ℕ × Data)
tool_members First = []
tool_members Second =
    (codes "version", string VERSION.now)
    ∷ (codes "semanticVersion", string VERSION.now)
    ∷ information_members INFORMATION_URI.now

-- what found the results, with a rule for each code
abbrev pub driver : Wording → Data
driver wording = object_of (
    (codes "name", string (codes "ctxvet"))
    ∷ (tool_members wording
    ++ ((codes "rules", list_of (map (rule_value wording) (rule_codes wording))) ∷ [])))

-- of which kind the run is, by which later runs are compared with it
abbrev pub kind_members : Wording → List (List ℕ × Data)
kind_members First = []
kind_members Second = (codes "automationDetails", only (codes "id") (string (codes "ctxvet/"))) ∷ []

abbrev pub run_value : Wording → List Data → Data
run_value wording results = object_of (
    (codes "tool", only (codes "driver") (driver wording))
    ∷ (kind_members wording
    ++ ((codes "columnKind", string (codes "unicodeCodePoints")) ∷ (codes "results", list_of results) ∷ [])))

abbrev pub log_value : Wording → List Data → Data
log_value wording results = object_of (
    (codes "$schema", string (codes "https://json.schemastore.org/sarif-2.1.0.json"))
    ∷ (codes "version", string (codes "2.1.0"))
    ∷ (codes "runs", list_of (run_value wording results ∷ []))
    ∷ [])

-- the whole report, of these results
abbrev pub sarif_of : Wording → List Data → List ℕ
sarif_of wording results = compact_text (log_value wording results) ++ codes "\n"

abbrev pub sarif_text : Style → List Fix → List FoundEntry → List ℕ
sarif_text style fixes packages = sarif_of style.wording (flat_map (package_results style fixes) packages)
