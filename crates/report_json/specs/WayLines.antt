-- The lines through which a way goes, as JSON of version 2 tells them with notes: the lines of the offsets of its
-- statements, each once. Offsets come in the order of the text, and so do lines.
use Rattle.std.specs.Prelude.{ℕ, ◌==◌, Bool, true, false, if◌then◌else◌, List, [], ◌∷◌, ◌++◌, map, codes}
use Rattle.std.specs.List.Sorted.{IsStrictlyIncreasing}
use Rattle.serde_json.specs.Data.{Data}
use Rattle.accepting.specs.Findings.{FindingEntry}
use Rattle.lexer.specs.Place.{line_of}
use Rattle.report.specs.declared.codes.Wording.{Wording}
use Rattle.report.specs.declared.codes.Wording.TheVariants.{First, Second}
use Rattle.format_parts.specs.Objects.{list_of, whole}
use Rattle.format_parts.specs.Told.{is_told}
use Rattle.format_parts.specs.declared.style.Style.{Style}

-- the offsets of a way, where it is told
abbrev pub way_by : Wording → (with_reasons is_told : Bool) → List ℕ → List ℕ
way_by First with_reasons is_told way = []
way_by Second true true way = way
way_by Second true false way = []
way_by Second false is_told way = []

abbrev pub told_way : Style → FindingEntry → List ℕ
told_way style f = way_by style.wording style.with_reasons (is_told style f) f.way

-- the line, unless it is the last one that is told
abbrev pub new_line : (last line : ℕ) → List ℕ
new_line last line = if line == last then [] else line ∷ []

-- the lines of offsets in a text, behind that line
abbrev pub lines_from : List ℕ → (last : ℕ) → List ℕ → List ℕ
lines_from text last [] = []
lines_from text last (at ∷ ats) = new_line last (line_of text at) ++ lines_from text (line_of text at) ats

-- a way has lines, where it has offsets
abbrev pub lines_members : List ℕ → List ℕ → List (List ℕ × Data)
lines_members text [] = []
lines_members text (at ∷ ats) = (codes "lines", list_of (map whole (lines_from text 0 (at ∷ ats)))) ∷ []

-- What is proved of them: offsets in order have lines in order, each once.
abbrev pub LinesAreInOrder : Type 0
LinesAreInOrder = (text offsets : List ℕ)
    → IsStrictlyIncreasing offsets
    → IsStrictlyIncreasing (lines_from text 0 offsets)
