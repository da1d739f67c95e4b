-- Why diagnostics stand in the report: the notes of one of a path tell a shortest way to its fault, and so do the
-- offsets of its way; the note of one of a use tells the reason of that use.
use Rattle.std.specs.Prelude.{ℕ, ◌≡◌, true, List, map, is_some, Some, slice_get, Contains}
use Rattle.body_ways.specs.BodyWays.{ToldWay, IsToldWay}
use Rattle.explanations.specs.Found.{shown, path_code_of, way_note}
use Rattle.explanations.specs.Uses.{HaveUseNotes}
use Rattle.findings.specs.FoundEntries.{known_paths}
use Rattle.lexer.specs.declared.source.Source.{Source}
use Rattle.meaning.specs.BodyEvents.{bodies_of}
use Rattle.meaning.specs.Mentions.{BodyPlace}
use Rattle.meaning_packages.specs.CallsFlags.{Flags, FileWithCredits, calls_by}
use Rattle.meaning_reports.specs.Loaded.{LoadedPackage, Tables, imported_flags}
use Rattle.meaning_reports.specs.PackageReports.{IsFileOf, path_entry}
use Rattle.meaning_reports.specs.PackageTables.{AreTables}
use Rattle.reasons.specs.Branches.{branches_of}
use Rattle.report.specs.Entries.{entry_of}
use Rattle.report.specs.declared.notes.ExplainedDiagnostic.{ExplainedDiagnostic}
use Rattle.report.specs.declared.notes.ExplainedPackage.{ExplainedPackage}

-- the notes of a diagnostic of the package at that place, and the offsets of its way, are those of a shortest way,
-- through a body of a file of the package, to the fault of which the diagnostic tells
pub record TellsWay
    (ps : List LoadedPackage) (tables : Tables) (i : ℕ) (sources : List Source) (d : ExplainedDiagnostic)
    : Type 0 where
  pub flags : Flags
  pub number : ℕ
  pub file : FileWithCredits
  pub is_of : IsFileOf ps tables i flags number file
  pub body : BodyPlace
  pub is_body : Contains (bodies_of file.seen) body
  pub told : ToldWay
  pub is_told : IsToldWay (known_paths (calls_by flags (imported_flags is_of.loaded tables)) file body)
      (branches_of body.statements) told
  pub is_entry : entry_of d.diagnostic ≡ path_entry number told.fault
  pub are_notes : map shown d.notes.items ≡ map (way_note sources number) told.notes
  pub are_offsets : d.way.items ≡ told.offsets

-- each of these diagnostics that is one of a path tells a way
abbrev pub AreToldBy : List LoadedPackage → Tables → ℕ → List Source → List ExplainedDiagnostic → Type 0
AreToldBy ps tables i sources explained = (d : ExplainedDiagnostic)
    → Contains explained d
    → is_some (path_code_of d.diagnostic.code) ≡ true
    → TellsWay ps tables i sources d

-- so it is of all diagnostics of the package
pub record HaveTheirNotes
    (ps : List LoadedPackage) (tables : Tables) (i : ℕ) (p : LoadedPackage) (sources : List Source)
    (explained : List ExplainedDiagnostic)
    : Type 0 where
  pub ways : AreToldBy ps tables i sources explained
  pub uses : HaveUseNotes ps tables p sources explained

-- by the tables of all packages the diagnostics of each of them have their notes
pub record AreExplained (declared : Tables) (ps : List LoadedPackage) (explained : List ExplainedPackage)
    : Type 0 where
  pub tables : Tables
  pub are_tables : AreTables declared ps tables
  pub each : (i : ℕ) (p : LoadedPackage) (e : ExplainedPackage)
      → slice_get ps i ≡ Some p
      → slice_get explained i ≡ Some e
      → HaveTheirNotes ps tables i p e.sources.now e.diagnostics.items
