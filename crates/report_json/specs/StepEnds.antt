-- Where the steps of a way end, as JSON of version 2 tells it: a binding with its name, and a branch, or where work is
-- started, with its statement or the header of that. Other notes tell no end.
use Rattle.std.specs.Prelude.{ℕ, Bool, true, false, ◌||◌, if◌then◌else◌, Option, None, Some, is_some, option_map, codes}
use Rattle.std.specs.Str.{bytes_eq}
use Rattle.function_spans.specs.Steps.{statement_end, word_end}
use Rattle.lexer.specs.declared.source.Place.{Place}
use Rattle.lexer.specs.declared.source.Source.{Source}
use Rattle.lexer.specs.Place.{line_of, column_of}
use Rattle.report.specs.Notes.{source_of}
use Rattle.report.specs.ReportText.{bytes_of}
use Rattle.report.specs.declared.codes.Wording.{Wording}
use Rattle.report.specs.declared.codes.Wording.TheVariants.{First, Second}
use Rattle.report.specs.declared.notes.Note.{Note}
use Rattle.report.specs.declared.notes.NoteText.{NoteText}
use Rattle.report.specs.declared.notes.NoteText.TheVariants.{Words, Named, Finding}
use Rattle.report_json.specs.Causes.{binds}
use Rattle.report_json.specs.NoteKinds.{taken_by}

-- the note tells a branch, or where work is started
abbrev pub is_of_statement : NoteText → Bool
is_of_statement (Words words) = is_some (taken_by words.now) || bytes_eq words.now (codes "work is started")
is_of_statement (Named before name after) = false
is_of_statement (Finding code name) = false

-- the offset behind a step
abbrev pub step_end : Note → Option ℕ
step_end n =
    if binds n.text then Some (word_end (bytes_of (source_of n)) n.offset)
    else if is_of_statement n.text then Some (statement_end (bytes_of (source_of n)) n.offset)
    else None

-- an offset of a source, as a line and a column in bytes
abbrev pub byte_place : Option Source → ℕ → Place
byte_place source offset = record {
  line = line_of (bytes_of source) offset;
  column = column_of (bytes_of source) offset;
}

abbrev pub step_end_place : Wording → Note → Option Place
step_end_place First n = None
step_end_place Second n = option_map (byte_place (source_of n)) (step_end n)
