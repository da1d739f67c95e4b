-- The fix that is told with a finding: of those that were found for files, the first one that is for it, by the file's
-- name, the kind of the finding, its name, and its place. By the first edition of the rules none is told.
use Rattle.std.specs.Prelude.{ℕ, Bool, true, false, ◌&&◌, nat_le, if◌then◌else◌, List, [], ◌∷◌, Option, None, Some, map, codes, string_bytes}
use Rattle.std.specs.Str.{bytes_eq}
use Rattle.serde_json.specs.Data.{Data, string}
use Rattle.lexer.specs.declared.source.Source.{Source}
use Rattle.report.specs.Entries.{Entry}
use Rattle.report.specs.ReportText.{name_of}
use Rattle.report.specs.declared.codes.DiagnosticCode.{DiagnosticCode}
use Rattle.report.specs.declared.codes.DiagnosticCode.TheVariants.{NotCalled, Discarded}
use Rattle.report.specs.declared.codes.Wording.{Wording}
use Rattle.report.specs.declared.codes.Wording.TheVariants.{First, Second}
use Rattle.suggested_fixes.specs.declared.edits.Edit.{Edit}
use Rattle.suggested_fixes.specs.declared.edits.Fix.{Fix}
use Rattle.suggested_fixes.specs.declared.edits.FixKind.{FixKind}
use Rattle.suggested_fixes.specs.declared.edits.FixKind.TheVariants.{Named, Blank}
use Rattle.format_parts.specs.Objects.{list_of, object_of, whole}

abbrev pub is_not_called : DiagnosticCode → Bool
is_not_called NotCalled = true
is_not_called code = false

abbrev pub is_discarded : DiagnosticCode → Bool
is_discarded Discarded = true
is_discarded code = false

-- a fix of this kind is for findings with this code
abbrev pub is_for : FixKind → DiagnosticCode → Bool
is_for Named = is_not_called
is_for Blank = is_discarded

-- the fix is for what is said of the file with this name
abbrev pub fits : (file : List ℕ) → Entry → Fix → Bool
fits file said fix =
    (is_for fix.kind said.code && (nat_le fix.from said.offset && nat_le said.offset fix.to))
    && (bytes_eq (string_bytes fix.name) said.name && bytes_eq (string_bytes fix.file) file)

-- the first one that is
abbrev pub fix_in : (file : List ℕ) → Entry → List Fix → Option Fix
fix_in file said [] = None
fix_in file said (fix ∷ fixes) = if fits file said fix then Some fix else fix_in file said fixes

-- that of what is said of a source
abbrev pub told_fix : Wording → List Fix → Option Source → Entry → Option Fix
told_fix First fixes source said = None
told_fix Second fixes source said = fix_in (name_of source) said fixes

-- what it does, in words
abbrev pub fix_words : FixKind → List ℕ
fix_words Named = codes "defer the call of the cancel function"
fix_words Blank = codes "name the cancel function, and defer its call"

-- In JSON, as the go command's analyzers tell it. Offsets are in bytes, from 0.
-- (golang.org/x/tools/go/analysis, JSONSuggestedFix of internal/analysisflags)

abbrev pub edit_value : (file : List ℕ) → Edit → Data
edit_value file edit = object_of (
    (codes "filename", string file)
    ∷ (codes "start", whole edit.start)
    ∷ (codes "end", whole edit.end)
    ∷ (codes "new", string (string_bytes edit.new))
    ∷ [])

abbrev pub fix_value : Fix → Data
fix_value fix = object_of (
    (codes "message", string (fix_words fix.kind))
    ∷ (codes "edits", list_of (map (edit_value (string_bytes fix.file)) fix.edits.items))
    ∷ [])

-- the member of a finding with this fix, if it has one
abbrev pub fix_members : Option Fix → List (List ℕ × Data)
fix_members None = []
fix_members (Some fix) = (codes "suggested_fixes", list_of (fix_value fix ∷ [])) ∷ []
