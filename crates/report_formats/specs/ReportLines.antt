-- The text of a report. Of each package it has a line for each finding that is told, in their order, and below it lines
-- of its notes, which begin with a tab, as no other line does. Then comes the verdict: `yes PATH`, `accepted PATH` or
-- `no PATH`. Before a yes stands a line of the fields in which the package keeps cancel functions, if there are some.
-- No name has a colon, so no import path can stand for such names. Each line ends in a newline.
use Rattle.std.specs.Prelude.{ℕ, Bool, true, false, if◌then◌else◌, List, [], ◌∷◌, ◌++◌, Option, Some, None, slice_get, flat_map, decimal, codes}
use Rattle.std.specs.List.{concat}
use Rattle.accepting.specs.Findings.{AcceptedBy, FindingEntry, FoundEntry, verdict_of}
use Rattle.accepting.specs.declared.findings.Verdict.{Verdict}
use Rattle.accepting.specs.declared.findings.Verdict.TheVariants.{Yes, Accepted, No}
use Rattle.lexer.specs.declared.source.Source.{Source}
use Rattle.lexer.specs.Place.{line_of, column_of}
use Rattle.report.specs.Codes.{code_number, code_words}
use Rattle.report.specs.Entries.{Entry}
use Rattle.report.specs.Notes.{note_words, source_of}
use Rattle.report.specs.ReportText.{name_of, bytes_of}
use Rattle.report.specs.declared.codes.Wording.{Wording}
use Rattle.report.specs.declared.notes.Note.{Note}
use Rattle.format_parts.specs.Told.{is_told, reason_text}
use Rattle.format_parts.specs.declared.style.Style.{Style}

-- ` (accepted: REASON)`
abbrev pub reason_shown : Option AcceptedBy → List ℕ
reason_shown None = []
reason_shown (Some by) = codes " (accepted: " ++ (reason_text by ++ codes ")")

-- `FILE:LINE:COLUMN: CODE NAME TEXT`, of what is said of a source
abbrev pub front_in : Wording → Option Source → Entry → List ℕ
front_in wording source said = concat (
    name_of source
    ∷ codes ":" ∷ decimal (line_of (bytes_of source) said.offset)
    ∷ codes ":" ∷ decimal (column_of (bytes_of source) said.offset)
    ∷ codes ": " ∷ code_number said.code
    ∷ codes " " ∷ said.name
    ∷ codes " " ∷ code_words wording said.code
    ∷ [])

-- the line of a finding in these sources
abbrev pub finding_line : Wording → List Source → FindingEntry → List ℕ
finding_line wording sources f =
    front_in wording (slice_get sources f.said.file) f.said ++ (reason_shown f.accepted ++ codes "\n")

-- a tab, and `FILE:LINE:COLUMN: TEXT`
abbrev pub note_line : Wording → Note → List ℕ
note_line wording n = concat (
    codes "\t" ∷ name_of (source_of n)
    ∷ codes ":" ∷ decimal (line_of (bytes_of (source_of n)) n.offset)
    ∷ codes ":" ∷ decimal (column_of (bytes_of (source_of n)) n.offset)
    ∷ codes ": " ∷ note_words wording n.text
    ∷ codes "\n" ∷ [])

-- what is told of a finding: its line, and those of its notes
abbrev pub all_lines : Wording → List Source → FindingEntry → List ℕ
all_lines wording sources f = finding_line wording sources f ++ flat_map (note_line wording) f.notes

abbrev pub told_lines : Style → List Source → FindingEntry → List ℕ
told_lines style sources f = if is_told style f then all_lines style.wording sources f else []

-- names behind another one
abbrev pub more_names : List (List ℕ) → List ℕ
more_names = flat_map (λ name. codes ", " ++ name)

-- `keeping F: PATH`, of the names of fields, with `, ` between them
abbrev pub keeping_line : List ℕ → List (List ℕ) → List ℕ
keeping_line path [] = []
keeping_line path (field ∷ fields) =
    concat (codes "keeping " ∷ field ∷ more_names fields ∷ codes ": " ∷ path ∷ codes "\n" ∷ [])

abbrev pub verdict_line : List ℕ → List ℕ → List ℕ
verdict_line verdict path = concat (verdict ∷ codes " " ∷ path ∷ codes "\n" ∷ [])

-- the last lines of a package: a quiet report says nothing of one that is yes
abbrev pub last_lines : (is_quiet : Bool) → Verdict → List ℕ → List (List ℕ) → List ℕ
last_lines true Yes path keeping = []
last_lines false Yes path keeping = keeping_line path keeping ++ verdict_line (codes "yes") path
last_lines quiet Accepted path keeping = verdict_line (codes "accepted") path
last_lines quiet No path keeping = verdict_line (codes "no") path

-- what is told of one package
abbrev pub package_text : Style → FoundEntry → List ℕ
package_text style p =
    flat_map (told_lines style p.sources) p.findings
    ++ last_lines style.is_quiet (verdict_of p.findings) p.path p.keeping

-- the whole report
abbrev pub report_text : Style → List FoundEntry → List ℕ
report_text style = flat_map (package_text style)
