-- Why a diagnostic of a use stands in the report: its one note tells the reason of just that use, by its own offset and
-- by what its code asks of it.
use Rattle.std.specs.Prelude.{ℕ, ◌≡◌, true, false, List, [], map, Option, None, Some, option_map, option_to_list, is_some, slice_get, Contains}
use Rattle.explanations.specs.Found.{Shown, shown}
use Rattle.lexer.specs.declared.source.Source.{Source}
use Rattle.meaning.specs.Mentions.{file_marks, marks_by}
use Rattle.meaning.specs.Tracked.{Known, placed}
use Rattle.meaning_reports.specs.Loaded.{LoadedPackage, Tables, known_in, trees_of}
use Rattle.report.specs.Entries.{Entry, entry_of}
use Rattle.report.specs.declared.codes.DiagnosticCode.{DiagnosticCode}
use Rattle.report.specs.declared.codes.DiagnosticCode.TheVariants.{Unreadable, LeftOut, Discarded, Overwritten, NotCalled, CancelMisused, GroupIsLive, GroupOverwritten, GroupMisused, LeftToLiveGroup, BoundAgain, TooMany, ImportIsNotYes, ImportHasNoRank, TwoFunctions, NoCertificate, AcceptsNothing}
use Rattle.report.specs.declared.notes.ExplainedDiagnostic.{ExplainedDiagnostic}
use Rattle.tree.specs.Syntax.{SourceFile}
use Rattle.tree.specs.declared.edition.Edition.TheVariants.{Second}
use Rattle.use_reasons.specs.UseReasons.{AskedOf, of_cancel, of_group, of_binding, UseReason, use_reason}

-- what is asked of the use of which a diagnostic of that code tells
abbrev pub asked_of : DiagnosticCode → Option AskedOf
asked_of (Unreadable why) = None
asked_of (LeftOut why) = None
asked_of Discarded = None
asked_of Overwritten = None
asked_of NotCalled = None
asked_of CancelMisused = Some of_cancel
asked_of GroupIsLive = None
asked_of GroupOverwritten = None
asked_of GroupMisused = Some of_group
asked_of LeftToLiveGroup = None
asked_of BoundAgain = Some of_binding
asked_of TooMany = None
asked_of ImportIsNotYes = None
asked_of ImportHasNoRank = None
asked_of TwoFunctions = None
asked_of NoCertificate = None
asked_of AcceptsNothing = None

-- A use that is asked of, by its offset
pub record Asked : Type 0 where
  pub at : ℕ
  pub of : AskedOf

abbrev pub asked_at : ℕ → AskedOf → Asked
asked_at at of = record { at = at; of = of }

-- the use of which the diagnostic tells
abbrev pub asked_by : Entry → Option Asked
asked_by x = option_map (asked_at x.offset) (asked_of x.code)

-- its reason in a tree
abbrev pub reason_in : Known → SourceFile → Asked → Option UseReason
reason_in known tree u = use_reason known (placed [] (marks_by Second false (file_marks tree))) u.at u.of

abbrev pub reason_if : Known → Option Asked → Option SourceFile → Option UseReason
reason_if known None tree = None
reason_if known (Some u) None = None
reason_if known (Some u) (Some tree) = reason_in known tree u

-- the reason of that use in its file of the package
abbrev pub reason_of : List LoadedPackage → Tables → LoadedPackage → Entry → Option UseReason
reason_of ps tables p x = reason_if (known_in ps tables p x.file) (asked_by x) (slice_get (trees_of p) x.file)

abbrev pub reason_note : List Source → ℕ → UseReason → Shown
reason_note sources file r = record { sources = sources; file = file; offset = r.at; text = r.text }

-- its note, if it has a reason
abbrev pub use_notes : List LoadedPackage → Tables → LoadedPackage → List Source → Entry → List Shown
use_notes ps tables p sources x = map (reason_note sources x.file) (option_to_list (reason_of ps tables p x))

-- each of these diagnostics that is one of a use has that note
abbrev pub HaveUseNotes :
    List LoadedPackage → Tables → LoadedPackage → List Source → List ExplainedDiagnostic → Type 0
HaveUseNotes ps tables p sources explained = (d : ExplainedDiagnostic)
    → Contains explained d
    → is_some (asked_of d.diagnostic.code) ≡ true
    → map shown d.notes.items ≡ use_notes ps tables p sources (entry_of d.diagnostic)
