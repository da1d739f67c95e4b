-- The text of a unit's report: a line for each diagnostic, in their order, and no verdict. Below it stand the lines of
-- the source around its place, where they are asked for, and then its notes, if there are some.
-- (golang.org/x/tools/go/analysis, PrintPlain of internal/analysisflags: lines are what newlines part, and each is
-- shown by its number, a tab and its text.)
use Rattle.std.specs.Prelude.{ℕ, ◌+◌, ◌-◌, ◌==◌, ◌&&◌, nat_le, if◌then◌else◌, List, [], ◌∷◌, ◌++◌, Bool, true, false, Option, Some, None, slice_get, flat_map, decimal, codes}
use Rattle.lexer.specs.Bytes.{line_feed}
use Rattle.lexer.specs.Place.{line_of}
use Rattle.lexer.specs.declared.source.Source.{Source}
use Rattle.accepting.specs.Findings.{FindingEntry, FoundEntry}
use Rattle.report.specs.ReportText.{bytes_of}
use Rattle.report_formats.specs.ReportLines.{finding_line, note_line}
use Rattle.format_parts.specs.Told.{is_told}
use Rattle.format_parts.specs.declared.style.Style.{Style}

abbrev pub before_first_line : ℕ → List (List ℕ) → List (List ℕ)
before_first_line b [] = (b ∷ []) ∷ []
before_first_line b (line ∷ lines) = (b ∷ line) ∷ lines

-- what newlines part, one line at least
abbrev pub lines_of : List ℕ → List (List ℕ)
lines_of [] = [] ∷ []
lines_of (b ∷ bs) = if b == line_feed then [] ∷ lines_of bs else before_first_line b (lines_of bs)

-- a line of a source, behind its number
abbrev pub shown_line : ℕ → List ℕ → List ℕ
shown_line number line = decimal number ++ (codes "\t" ++ (line ++ codes "\n"))

-- the line stands at most so many lines above or below another one
abbrev pub is_near : (around other number : ℕ) → Bool
is_near around other number = nat_le (other - number) around && nat_le (number - other) around

abbrev pub shown_if : Bool → ℕ → List ℕ → List ℕ
shown_if true number line = shown_line number line
shown_if false number line = []

-- the lines that are near, of lines that are counted from this number on
abbrev pub shown_from : (ℕ → Bool) → ℕ → List (List ℕ) → List ℕ
shown_from near number [] = []
shown_from near number (line ∷ lines) = shown_if (near number) number line ++ shown_from near (number + 1) lines

-- those around a line of a text, where lines are asked for
abbrev pub lines_around : Option ℕ → List ℕ → ℕ → List ℕ
lines_around None text line = []
lines_around (Some around) text line = shown_from (is_near around line) 1 (lines_of text)

-- the bytes of a source of this number
abbrev pub text_at : List Source → ℕ → List ℕ
text_at sources file = bytes_of (slice_get sources file)

-- what is told of a finding of a unit with these sources: its line, the lines around its place, and its notes
abbrev pub unit_lines : Style → Option ℕ → List Source → FindingEntry → List ℕ
unit_lines style around sources f =
    finding_line style.wording sources f
    ++ (lines_around around (text_at sources f.said.file) (line_of (text_at sources f.said.file) f.said.offset)
    ++ flat_map (note_line style.wording) f.notes)

abbrev pub unit_told : Style → Option ℕ → List Source → FindingEntry → List ℕ
unit_told style around sources f = if is_told style f then unit_lines style around sources f else []

-- all that is printed of a unit
abbrev pub unit_text : Style → Option ℕ → FoundEntry → List ℕ
unit_text style around p = flat_map (unit_told style around p.sources) p.findings
