use Rattle.std.proofs.Common.{drop}
use Rattle.vet_units.specs.JudgedUnits.{AreCountedSoFar}
use Rattle.vet_units.proofs.unit_report.imports_in.Given as goal

-- what was taken, with what is left, is the whole
abbrev pub invariant-loop-one : goal.invariant-loop-one
invariant-loop-one l = AreCountedSoFar l.module_path (drop l.one-index l.told) l.told l.imports.items
