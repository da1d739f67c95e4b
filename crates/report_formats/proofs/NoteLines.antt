-- The line of a note, cut into what is put.
use Rattle.std.proofs.Common.{◌≡◌, ℕ, List, [], ◌∷◌, ◌++◌, take, decimal, codes, refl, ap}
use Rattle.std.specs.List.{concat}
use Rattle.lexer.specs.Place.{line_of, column_of}
use Rattle.report.specs.Notes.{note_words, source_of}
use Rattle.report.specs.ReportText.{name_of, bytes_of}
use Rattle.report.specs.declared.codes.Wording.{Wording}
use Rattle.report.specs.declared.notes.Note.{Note}
use Rattle.report_formats.specs.ReportLines.{note_line}
use Rattle.format_parts.proofs.NoteParts.{parts_then}

abbrev pub line_pieces : (file : List ℕ) (line column : ℕ) (a b c d e : List ℕ) → List (List ℕ)
line_pieces file line column a b c d e =
    codes "\t" ∷ file ∷ codes ":" ∷ decimal line ∷ codes ":" ∷ decimal column ∷ codes ": "
    ∷ a ∷ b ∷ c ∷ d ∷ e ∷ codes "\n" ∷ []

module _ (wording : Wording) (n : Note) (a b c d e : List ℕ)
    (are : a ++ (b ++ (c ++ (d ++ e))) ≡ note_words wording n.text) where
  line_here : note_line wording n
      ≡ concat (line_pieces (name_of (source_of n)) (line_of (bytes_of (source_of n)) n.offset) (column_of (bytes_of (source_of n)) n.offset) a b c d e)
  line_here =
      let line = line_of (bytes_of (source_of n)) n.offset in
      let column = column_of (bytes_of (source_of n)) n.offset in
      ap (λ t. codes "\t" ++ (name_of (source_of n) ++ (codes ":" ++ (decimal line ++ (codes ":" ++ (decimal column ++ (codes ": " ++ t)))))))
      (parts_then a b c d e (note_words wording n.text) (codes "\n") are)

  pub line_is : (file : List ℕ) (line column : ℕ) → file ≡ name_of (source_of n)
      → line ≡ line_of (bytes_of (source_of n)) n.offset → column ≡ column_of (bytes_of (source_of n)) n.offset
      → note_line wording n ≡ concat (line_pieces file line column a b c d e)
  line_is file line column f l o = rw (f, l, o) line_here

pub begins_with_tab : (wording : Wording) (note : Note) → take 1 (note_line wording note) ≡ codes "\t"
begins_with_tab wording note = refl
