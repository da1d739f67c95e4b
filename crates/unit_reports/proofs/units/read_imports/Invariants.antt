use Rattle.std.proofs.Common.{drop}
use Rattle.imports.specs.Views.{text_views}
use Rattle.unit_reports.specs.UnitParts.{AreReadSoFar}
use Rattle.unit_reports.proofs.units.read_imports.Given as goal

-- what was read, with what is left, is the whole
abbrev pub invariant-loop-one : goal.invariant-loop-one
invariant-loop-one l = AreReadSoFar (text_views l.paths) (drop l.one-index l.told) l.told l.read.items
