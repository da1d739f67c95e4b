-- What a log says around its results and their notes, and where these stand.
use Rattle.std.specs.Prelude.{◌≡◌, ℕ, Option, List, [], ◌++◌, Bool, true, false, map, codes, ◌≤◌, length, slice_get}
use Rattle.lexer.specs.declared.source.Place.{Place}
use Rattle.lexer.specs.declared.source.Source.{Source}
use Rattle.lexer.specs.Place.{line_of}
use Rattle.report.specs.Entries.{Entry}
use Rattle.report.specs.ReportText.{bytes_of}
use Rattle.report.specs.declared.cursors.Cursor.{Cursor}
use Rattle.report.specs.declared.codes.DiagnosticCode.{DiagnosticCode}
use Rattle.report.specs.declared.codes.Wording.{Wording}
use Rattle.format_parts.specs.Pieces.{listed, members_listed}
use Rattle.format_parts.specs.declared.ends.Region.{Region}
use Rattle.sarif.specs.CodePoints.{code_point_column}
use Rattle.sarif.specs.SarifCodes.{rule_codes}
use Rattle.sarif.specs.SarifText.{end_place, kind_members, rule_value, tool_members}

-- what a log says behind its rules and before its results
abbrev pub front_end : Wording → List ℕ
front_end wording =
    codes "]}}"
    ++ (members_listed true (kind_members wording) ++ codes ",\"columnKind\":\"unicodeCodePoints\",\"results\":[")

-- what a log says before its results, with a rule for each of these codes
abbrev pub front_for : Wording → List DiagnosticCode → List ℕ
front_for wording ruled =
    (codes "{\"$schema\":\"https://json.schemastore.org/sarif-2.1.0.json\",\"version\":\"2.1.0\","
    ++ codes "\"runs\":[{\"tool\":{\"driver\":{\"name\":\"ctxvet\"")
    ++ (members_listed true (tool_members wording)
    ++ (codes ",\"rules\":[" ++ (listed false (map (rule_value wording) ruled) ++ front_end wording)))

abbrev pub log_front : Wording → List ℕ
log_front wording = front_for wording (rule_codes wording)

-- what stands before the notes of a result and behind them, up to the end of the result
abbrev pub notes_front : Bool → List ℕ
notes_front true = codes ",\"codeFlows\":[{\"threadFlows\":[{\"locations\":["
notes_front false = codes ",\"relatedLocations\":["

abbrev pub notes_end : Bool → List ℕ
notes_end true = codes "]}]}]}"
notes_end false = codes "]}"

-- what stands before the place of a note and behind it
abbrev pub note_front : Bool → List ℕ
note_front true = codes "{\"location\":"
note_front false = []

abbrev pub note_end : Bool → List ℕ
note_end true = codes "}"
note_end false = []

-- what stands behind the path of a file, up to the end of the file's object
abbrev pub base_text : Bool → List ℕ
base_text true = codes "\""
base_text false = codes "\",\"uriBaseId\":\"%SRCROOT%\""

-- the place of an offset in a source, with its column in code points
pub record IsPlaceOf (source : Option Source) (offset : ℕ) (place : Place) : Type 0 where
  pub line : place.line ≡ line_of (bytes_of source) offset
  pub column : place.column ≡ code_point_column (bytes_of source) offset

-- the place of what is said of a source, and where its region ends, with columns in code points
pub record IsRegionOf (wording : Wording) (source : Option Source) (said : Entry) (region : Region) : Type 0 where
  pub start : IsPlaceOf source said.offset region.start
  pub end : region.end ≡ end_place wording source said

-- a cursor stands at a byte of a source, or at its end, with the place of that byte, whose column counts code points
pub record IsAtPlace (sources : List Source) (cursor : Cursor) : Type 0 where
  pub within : cursor.offset ≤ length (bytes_of (slice_get sources cursor.file))
  pub line : cursor.place.line ≡ line_of (bytes_of (slice_get sources cursor.file)) cursor.offset
  pub column : cursor.place.column ≡ code_point_column (bytes_of (slice_get sources cursor.file)) cursor.offset
