-- What an explained package says beside its notes: just what its report says.
use Rattle.std.specs.Prelude.{ℕ, List}
use Rattle.lexer.specs.declared.source.Source.{Source}
use Rattle.report.specs.Entries.{texts_of}
use Rattle.report.specs.declared.diagnostics.Diagnostic.{Diagnostic}
use Rattle.report.specs.declared.diagnostics.PackageReport.{PackageReport}
use Rattle.report.specs.Notes.{plain_of}
use Rattle.report.specs.declared.notes.ExplainedPackage.{ExplainedPackage}
use Rattle.one_package.specs.declared.judged.Judged.{Judged}

pub record Plain : Type 0 where
  pub path : List ℕ
  pub sources : List Source
  pub keeping : List (List ℕ)
  pub diagnostics : List Diagnostic

abbrev pub report_view : PackageReport → Plain
report_view r = record {
  path = r.path.now;
  sources = r.sources.now;
  keeping = texts_of r.keeping.items;
  diagnostics = r.diagnostics.items;
}

abbrev pub judged_view : Judged → Plain
judged_view judged = report_view judged.report

abbrev pub plain_view : ExplainedPackage → Plain
plain_view p = record {
  path = p.path.now;
  sources = p.sources.now;
  keeping = texts_of p.keeping.items;
  diagnostics = plain_of p.diagnostics.items;
}
