-- The function in which a finding stands, as JSON of version 2 tells it: its name, the lines from `func` to the brace
-- that closes its body, and whether the finding stands in a function literal there. A file that can't be read has none.
use Rattle.std.specs.Prelude.{ℕ, Bool, true, false, if◌then◌else◌, List, [], ◌∷◌, Option, None, Some, codes}
use Rattle.serde_json.specs.Data.{Data, boolean, string}
use Rattle.lexer.specs.Place.{line_of}
use Rattle.lexer.specs.declared.source.Source.{Source}
use Rattle.function_spans.specs.Bodies.{body_end}
use Rattle.function_spans.specs.Functions.{full_name, function_at, is_in_literal}
use Rattle.report.specs.Entries.{Entry}
use Rattle.report.specs.ReportText.{bytes_of}
use Rattle.report.specs.declared.codes.DiagnosticCode.{DiagnosticCode}
use Rattle.report.specs.declared.codes.DiagnosticCode.TheVariants.{Unreadable}
use Rattle.report.specs.declared.codes.Wording.{Wording}
use Rattle.report.specs.declared.codes.Wording.TheVariants.{First, Second}
use Rattle.format_parts.specs.Objects.{object_of, whole}

-- the code is said of a file that can be read
abbrev pub is_readable : DiagnosticCode → Bool
is_readable (Unreadable why) = false
is_readable code = true

-- where the `func` stands of the function that is told with what is said of a source
abbrev pub told_function : Wording → Option Source → Entry → Option ℕ
told_function First source said = None
told_function Second source said =
    if is_readable said.code then function_at (bytes_of source) said.offset else None

-- the function whose `func` stands there, of an offset in it
abbrev pub function_value : (text : List ℕ) → (offset function : ℕ) → Data
function_value text offset function = object_of (
    (codes "name", string (full_name text function))
    ∷ (codes "line", whole (line_of text function))
    ∷ (codes "end_line", whole (line_of text (body_end text function)))
    ∷ (codes "literal", boolean (is_in_literal text function offset))
    ∷ [])

abbrev pub function_members : (text : List ℕ) → (offset : ℕ) → Option ℕ → List (List ℕ × Data)
function_members text offset None = []
function_members text offset (Some function) = (codes "function", function_value text offset function) ∷ []

-- that of what is said of a source
abbrev pub around_members : Wording → Option Source → Entry → List (List ℕ × Data)
around_members wording source said =
    function_members (bytes_of source) said.offset (told_function wording source said)
