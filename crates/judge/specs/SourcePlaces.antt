-- Where the lines of a report stand: each is of one of its package's sources, at an offset of that source's text or at
-- its end.
use Rattle.std.specs.Prelude.{ℕ, ◌≡◌, ◌≤◌, List, length, Some, slice_get, Contains}
use Rattle.lexer.specs.declared.source.Source.{Source}
use Rattle.report.specs.declared.diagnostics.Diagnostic.{Diagnostic}
use Rattle.one_package.specs.declared.judged.Judged.{Judged}

pub record StandsInSource (sources : List Source) (d : Diagnostic) : Type 0 where
  pub source : Source
  pub is_file : slice_get sources d.file ≡ Some source
  pub within : d.offset ≤ length source.bytes.items

-- each that is said of a package stands in one of the package's sources
abbrev pub StandInSources : List Judged → Type 0
StandInSources said = (i : ℕ) (judged : Judged) (d : Diagnostic)
    → slice_get said i ≡ Some judged
    → Contains judged.report.diagnostics.items d
    → StandsInSource judged.report.sources.now d
