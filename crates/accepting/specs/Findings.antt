-- Findings as a report tells them: what each says, its notes, the offsets of the way of which they tell, if they tell
-- of one, and by what it is accepted, if it is.
use Rattle.std.specs.Prelude.{ℕ, Bool, true, false, List, [], ◌∷◌, Option, None, map, option_map, is_some}
use Rattle.std.specs.List.{list_all}
use Rattle.lexer.specs.declared.source.Source.{Source}
use Rattle.report.specs.Entries.{Entry, entry_of, texts_of}
use Rattle.report.specs.declared.diagnostics.Diagnostic.{Diagnostic}
use Rattle.report.specs.declared.diagnostics.PackageReport.{PackageReport}
use Rattle.report.specs.declared.notes.ExplainedDiagnostic.{ExplainedDiagnostic}
use Rattle.report.specs.declared.notes.ExplainedPackage.{ExplainedPackage}
use Rattle.report.specs.declared.notes.Note.{Note}
use Rattle.accepting.specs.declared.findings.Acceptance.{Acceptance}
use Rattle.accepting.specs.declared.findings.Acceptance.TheVariants.{ByLine, ByBaseline}
use Rattle.accepting.specs.declared.findings.Finding.{Finding}
use Rattle.accepting.specs.declared.findings.FoundPackage.{FoundPackage}
use Rattle.accepting.specs.declared.findings.Verdict.{Verdict}
use Rattle.accepting.specs.declared.findings.Verdict.TheVariants.{Yes, Accepted, No}

-- by a line of its source, for this reason, or by the report of an earlier run
pub data AcceptedBy : Type 0 where
  line : (reason : List ℕ) → AcceptedBy
  baseline : AcceptedBy

pub record FindingEntry : Type 0 where
  pub said : Entry
  pub notes : List Note
  pub way : List ℕ
  pub accepted : Option AcceptedBy

-- a package: its import path, its sources, the fields in which it keeps cancel functions, and its findings
pub record FoundEntry : Type 0 where
  pub path : List ℕ
  pub sources : List Source
  pub keeping : List (List ℕ)
  pub findings : List FindingEntry

-- what a report says, where nothing is accepted, without notes
abbrev pub plain_finding : Diagnostic → FindingEntry
plain_finding d = record { said = entry_of d; notes = []; way = []; accepted = None }

abbrev pub plain_package : PackageReport → FoundEntry
plain_package r = record {
  path = r.path.now;
  sources = r.sources.now;
  keeping = texts_of r.keeping.items;
  findings = map plain_finding r.diagnostics.items;
}

-- and with notes
abbrev pub explained_finding : ExplainedDiagnostic → FindingEntry
explained_finding e = record {
  said = entry_of e.diagnostic;
  notes = e.notes.items;
  way = e.way.items;
  accepted = None;
}

abbrev pub explained_package : ExplainedPackage → FoundEntry
explained_package p = record {
  path = p.path.now;
  sources = p.sources.now;
  keeping = texts_of p.keeping.items;
  findings = map explained_finding p.diagnostics.items;
}

abbrev pub is_accepted : FindingEntry → Bool
is_accepted f = is_some f.accepted

-- what is said of a package with findings, by whether all of them are accepted
abbrev pub verdict_by : Bool → Verdict
verdict_by true = Accepted
verdict_by false = No

-- what is said of a package with these findings
abbrev pub verdict_of : List FindingEntry → Verdict
verdict_of [] = Yes
verdict_of (f ∷ fs) = verdict_by (list_all is_accepted (f ∷ fs))

abbrev pub passes : Verdict → Bool
passes No = false
passes verdict = true

-- The same in memory

abbrev pub accepted_view : Acceptance → AcceptedBy
accepted_view (ByLine reason) = line reason.now
accepted_view ByBaseline = baseline

abbrev pub finding_view : Finding → FindingEntry
finding_view f = record {
  said = entry_of f.diagnostic;
  notes = f.notes.items;
  way = f.way.items;
  accepted = option_map accepted_view f.acceptance;
}

abbrev pub found_view : FoundPackage → FoundEntry
found_view p = record {
  path = p.path.now;
  sources = p.sources.now;
  keeping = texts_of p.keeping.items;
  findings = map finding_view p.findings.items;
}
