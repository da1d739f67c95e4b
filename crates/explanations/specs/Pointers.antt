-- Notes that point to the other part of a finding.
use Rattle.std.specs.Prelude.{ℕ, ◌==◌, ◌&&◌, Bool, if◌then◌else◌, List, [], ◌∷◌, ◌++◌, Option, None, Some, option_map, slice_get, codes}
use Rattle.std.specs.Str.{bytes_eq}
use Rattle.explanations.specs.Found.{Shown}
use Rattle.explanations.specs.declared.pointers.Spot.{Spot as KeptSpot}
use Rattle.lexer.specs.declared.source.Source.{Source}
use Rattle.meaning.specs.OuterBlocks.{can_be_meant, or_else}
use Rattle.meaning_reports.specs.Loaded.{NumberedTree}
use Rattle.reasons.specs.Reasons.{on_the_ring, first_of_name, pointer_text}
use Rattle.report.specs.Codes.{code_rank, code_number, code_text}
use Rattle.report.specs.declared.codes.DiagnosticCode.TheVariants.{ImportHasNoRank}
use Rattle.report.specs.declared.diagnostics.Diagnostic.{Diagnostic}
use Rattle.report.specs.declared.diagnostics.PackageReport.{PackageReport}
use Rattle.tree.specs.Syntax.{Function, TopLevelDeclaration, function_declaration, general_declaration}

-- a note at the place of a diagnostic of a report
abbrev pub at_diagnostic : PackageReport → Diagnostic → List ℕ → Shown
at_diagnostic r d text = record { sources = r.sources.now; file = d.file; offset = d.offset; text = text }

-- An import that is not yes

-- `CODE NAME TEXT`
abbrev pub finding_text : Diagnostic → List ℕ
finding_text d = code_number d.code ++ (codes " " ++ (d.name.now ++ (codes " " ++ code_text d.code)))

-- the first finding of the imported package
abbrev pub finding_note : PackageReport → Option Shown
finding_note r = option_map (λ d. at_diagnostic r d (finding_text d)) (slice_get r.diagnostics.items 0)

-- An import without a rank

abbrev pub is_of_ring : Diagnostic → Bool
is_of_ring d = code_rank d.code == code_rank ImportHasNoRank

abbrev pub first_of_ring : List Diagnostic → Option Diagnostic
first_of_ring [] = None
first_of_ring (d ∷ ds) = if is_of_ring d then Some d else first_of_ring ds

-- the first import of the imported package that has no rank either
abbrev pub ring_note : PackageReport → Option Shown
ring_note r = option_map (λ d. at_diagnostic r d (pointer_text on_the_ring)) (first_of_ring r.diagnostics.items)

-- Two functions of one name

pub record Spot : Type 0 where
  pub file : ℕ
  pub offset : ℕ

abbrev pub spot_view : KeptSpot → Spot
spot_view s = record { file = s.file; offset = s.offset }

-- the name means this function
abbrev pub is_meant : List ℕ → Function → Bool
is_meant name f = can_be_meant f && bytes_eq f.name.text name

-- the offset of the first of these that has the name
abbrev pub first_in : List ℕ → List TopLevelDeclaration → Option ℕ
first_in name [] = None
first_in name (function_declaration f ∷ ds) = if is_meant name f then Some f.name.span.start else first_in name ds
first_in name (general_declaration d ∷ ds) = first_in name ds

abbrev pub spot_in : ℕ → ℕ → Spot
spot_in file offset = record { file = file; offset = offset }

abbrev pub first_spot : List ℕ → List NumberedTree → Option Spot
first_spot name [] = None
first_spot name (t ∷ ts) =
    or_else (option_map (spot_in t.file) (first_in name t.tree.declarations)) (first_spot name ts)

abbrev pub spot_note : List Source → Spot → Shown
spot_note sources s =
    record { sources = sources; file = s.file; offset = s.offset; text = pointer_text first_of_name }

-- the first function of the name
abbrev pub first_note : List Source → List ℕ → List NumberedTree → Option Shown
first_note sources name trees = option_map (spot_note sources) (first_spot name trees)
