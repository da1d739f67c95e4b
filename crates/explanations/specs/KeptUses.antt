-- What the program keeps of uses, and what it stands for.
use Rattle.std.specs.Prelude.{ℕ, ◌+◌, ◌≡◌, ◌==◌, ◌&&◌, Bool, true, false, if◌then◌else◌, List, [], ◌∷◌, map, filter_map, Option, None, Some, option_map, option_to_list, is_some, slice_get, Contains}
use Rattle.std.specs.List.{list_any}
use Rattle.explanations.specs.Found.{shown}
use Rattle.explanations.specs.Uses.{asked_of, Asked, asked_by, reason_in, reason_note, reason_of}
use Rattle.explanations.specs.declared.told_uses.FileUses.{FileUses}
use Rattle.facts.specs.FactViews.{facts_by_name, facts_by_path}
use Rattle.lexer.specs.declared.source.Source.{Source}
use Rattle.meaning.specs.Tracked.{Known}
use Rattle.meaning_reports.specs.Loaded.{LoadedPackage, Tables}
use Rattle.names.specs.Answers.{declared_at}
use Rattle.report.specs.Entries.{Entry, entry_of}
use Rattle.report.specs.declared.diagnostics.Diagnostic.{Diagnostic}
use Rattle.report.specs.declared.notes.ExplainedDiagnostic.{ExplainedDiagnostic}
use Rattle.report.specs.declared.notes.Note.{Note}
use Rattle.tracked_rows.specs.RowViews.{fields_view, left_among}
use Rattle.tracked_rows.specs.declared.known.Known.{Known as KeptKnown}
use Rattle.tree.specs.Syntax.{SourceFile}
use Rattle.use_reasons.specs.ReasonViews.{of_view, reason_view}
use Rattle.use_reasons.specs.UseReasons.{AskedOf, of_cancel, of_group, of_binding, UseReason}
use Rattle.use_reasons.specs.declared.uses.AskedUse.{AskedUse}

abbrev pub asked_view : AskedUse → Asked
asked_view u = record { at = u.at; of = of_view u.of }

-- uses of a file, and why they are told, one by one
pub record FileReasons : Type 0 where
  pub asked : List Asked
  pub reasons : List (Option UseReason)

abbrev pub uses_view : FileUses → FileReasons
uses_view uses = record {
  asked = map asked_view uses.asked.items;
  reasons = map (option_map reason_view) uses.reasons.items;
}

-- The uses of diagnostics

abbrev pub any_of_use : List Diagnostic → Bool
any_of_use = list_any (λ d. is_some (asked_of d.code))

-- the use of which the diagnostic tells, if that is in the file of that number
abbrev pub asked_there : ℕ → Diagnostic → Option Asked
asked_there file d = if d.file == file then asked_by (entry_of d) else None

-- the uses of the file of that number of which the diagnostics tell, in their order
abbrev pub asked_in : ℕ → List Diagnostic → List Asked
asked_in file = filter_map (asked_there file)

-- Their reasons

abbrev pub file_reasons : Known → SourceFile → List Asked → FileReasons
file_reasons known tree asked = record { asked = asked; reasons = map (reason_in known tree) asked }

-- those of each of these files, of which the first has that number
abbrev pub reasons_from : (ℕ → Known) → List Diagnostic → ℕ → List SourceFile → List FileReasons
reasons_from known ds n [] = []
reasons_from known ds n (tree ∷ trees) =
    file_reasons (known n) tree (asked_in n ds) ∷ reasons_from known ds (n + 1) trees

-- what is known in the file of that number
abbrev pub known_at : KeptKnown → ℕ → Known
known_at known number = record {
  edition = known.edition;
  means = declared_at known.names.now number;
  fields = fields_view known.fields;
  object_lefts = left_among known.object_lefts.now;
  functions = facts_by_name known.table.now;
  imported = facts_by_path known.imported.now;
}

-- The reason of one of them

abbrev pub is_same_of : AskedOf → AskedOf → Bool
is_same_of of_cancel of_cancel = true
is_same_of of_cancel of_group = false
is_same_of of_cancel of_binding = false
is_same_of of_group of_cancel = false
is_same_of of_group of_group = true
is_same_of of_group of_binding = false
is_same_of of_binding of_cancel = false
is_same_of of_binding of_group = false
is_same_of of_binding of_binding = true

abbrev pub is_same_use : Asked → Asked → Bool
is_same_use u v = (u.at == v.at) && is_same_of u.of v.of

-- the place of the first that is this use, where the first of all has that number
abbrev pub place_from : Asked → ℕ → List Asked → Option ℕ
place_from u n [] = None
place_from u n (v ∷ vs) = if is_same_use v u then Some n else place_from u (n + 1) vs

abbrev pub if_there : Option (Option UseReason) → Option UseReason
if_there None = None
if_there (Some r) = r

abbrev pub reason_at : Option ℕ → List (Option UseReason) → Option UseReason
reason_at None reasons = None
reason_at (Some n) reasons = if_there (slice_get reasons n)

abbrev pub kept_reason : Option Asked → Option FileReasons → Option UseReason
kept_reason None file = None
kept_reason (Some u) None = None
kept_reason (Some u) (Some file) = reason_at (place_from u 0 file.asked) file.reasons

-- why the use is told of which the diagnostic tells, by what is kept of each file
abbrev pub reason_by : List FileReasons → Entry → Option UseReason
reason_by uses x = kept_reason (asked_by x) (slice_get uses x.file)

-- what is kept gives each of these diagnostics the reason of its use
abbrev pub HaveReasons : List LoadedPackage → Tables → LoadedPackage → List Diagnostic → List FileReasons → Type 0
HaveReasons ps tables p ds uses = (d : Diagnostic)
    → Contains ds d
    → reason_by uses (entry_of d) ≡ reason_of ps tables p (entry_of d)

-- Notes

abbrev pub HasUseNote : List Source → List FileReasons → Diagnostic → List Note → Type 0
HasUseNote sources uses d notes =
    map shown notes ≡ map (reason_note sources d.file) (option_to_list (reason_by uses (entry_of d)))

-- those that tell of a use have these notes
abbrev pub AreNotesByUses : List Source → List FileReasons → List ExplainedDiagnostic → Type 0
AreNotesByUses sources uses explained = (d : ExplainedDiagnostic)
    → Contains explained d
    → is_some (asked_of d.diagnostic.code) ≡ true
    → HasUseNote sources uses d.diagnostic d.notes.items
