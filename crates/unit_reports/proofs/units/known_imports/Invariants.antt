use Rattle.std.proofs.Common.{drop}
use Rattle.unit_reports.specs.UnitParts.{KnowsReadSoFar}
use Rattle.unit_reports.proofs.units.known_imports.Given as goal

-- what is known, with what is left, is the whole
abbrev pub invariant-loop-one : goal.invariant-loop-one
invariant-loop-one l = KnowsReadSoFar (drop l.one-index l.read) l.read l.known
