-- What diagnostics say, wherever their names are kept, and the order in which a report has them.
use Rattle.std.specs.Prelude.{◌≡◌, ℕ, ◌<◌, ◌⊎◌, List, [], ◌∷◌, map}
use Rattle.std.specs.Borrow.{Bor}
use Rattle.report.specs.declared.codes.DiagnosticCode.{DiagnosticCode}
use Rattle.report.specs.declared.diagnostics.Diagnostic.{Diagnostic}
use Rattle.report.specs.Codes.{code_rank}

-- what a diagnostic says
pub record Entry : Type 0 where
  pub file : ℕ
  pub offset : ℕ
  pub code : DiagnosticCode
  pub name : List ℕ

abbrev pub entry_of : Diagnostic → Entry
entry_of d = record { file = d.file; offset = d.offset; code = d.code; name = d.name.now }

-- names, wherever they are kept
abbrev pub texts_of : List (Bor (List ℕ)) → List (List ℕ)
texts_of = map (λ name. name.now)

-- one text stands before another, byte by byte
abbrev pub TextPrecedes : List ℕ → List ℕ → Type 0
TextPrecedes [] [] = ⊥
TextPrecedes [] (y ∷ ys) = Unit {0}
TextPrecedes (x ∷ xs) [] = ⊥
TextPrecedes (x ∷ xs) (y ∷ ys) = (x < y) ⊎ ((x ≡ y) × TextPrecedes xs ys)

-- the order of diagnostics: by files, then by offsets, then by codes, then by names
pub data Precedes (a b : Entry) : Type 0 where
  earlier_file : a.file < b.file → Precedes a b
  earlier_offset : a.file ≡ b.file → a.offset < b.offset → Precedes a b
  earlier_code : a.file ≡ b.file → a.offset ≡ b.offset → code_rank a.code < code_rank b.code → Precedes a b
  earlier_name : a.file ≡ b.file → a.offset ≡ b.offset → a.code ≡ b.code → TextPrecedes a.name b.name → Precedes a b
