-- Why each diagnostic of a package that is judged by itself stands in its report.
use Rattle.std.specs.Prelude.{ℕ, List}
use Rattle.explanations.specs.Explained.{HaveTheirNotes}
use Rattle.gathering.specs.Results.{HaveTold, Tellings}
use Rattle.meaning_reports.specs.Loaded.{LoadedPackage, Tables}
use Rattle.meaning_reports.specs.PackageReports.{by_paths}
use Rattle.report.specs.declared.notes.ExplainedPackage.{ExplainedPackage}

-- by all tables that have what was told of its imports, its diagnostics have their notes
abbrev pub NotesFollow : Tables → List LoadedPackage → ℕ → LoadedPackage → Tellings → ExplainedPackage → Type 0
NotesFollow declared ps i p told explained = (tables : Tables)
    → HaveTold (by_paths declared) ps tables i told
    → HaveTheirNotes ps tables i p explained.sources.now explained.diagnostics.items
