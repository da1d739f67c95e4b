-- What a note says, and in which file.
use Rattle.std.specs.Prelude.{ℕ, List, ◌++◌, Option, slice_get, map, codes}
use Rattle.lexer.specs.declared.source.Source.{Source}
use Rattle.report.specs.Codes.{code_number, code_words}
use Rattle.report.specs.declared.codes.Wording.{Wording}
use Rattle.report.specs.declared.codes.Wording.TheVariants.{First}
use Rattle.report.specs.declared.diagnostics.Diagnostic.{Diagnostic}
use Rattle.report.specs.declared.notes.ExplainedDiagnostic.{ExplainedDiagnostic}
use Rattle.report.specs.declared.notes.Note.{Note}
use Rattle.report.specs.declared.notes.NoteText.{NoteText}
use Rattle.report.specs.declared.notes.NoteText.TheVariants.{Words, Named, Finding}

-- words, a name between words, or `CODE NAME TEXT` of another diagnostic in this wording
abbrev pub note_words : Wording → NoteText → List ℕ
note_words wording (Words words) = words.now
note_words wording (Named before name after) = before.now ++ (name.now ++ after.now)
note_words wording (Finding code name) =
    code_number code ++ (codes " " ++ (name.now ++ (codes " " ++ code_words wording code)))

-- the same in the wording of the first edition of the rules
abbrev pub note_text : NoteText → List ℕ
note_text = note_words First

-- the file that a note speaks of
abbrev pub source_of : Note → Option Source
source_of n = slice_get n.sources.now n.file

-- diagnostics without their notes
abbrev pub plain_of : List ExplainedDiagnostic → List Diagnostic
plain_of = map (λ e. e.diagnostic)
