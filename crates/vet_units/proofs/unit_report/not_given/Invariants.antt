use Rattle.std.proofs.Common.{◌≡◌, ◌++◌, drop, map, string_bytes}
use Rattle.vet_units.specs.JudgedUnits.{not_given}
use Rattle.vet_units.proofs.unit_report.not_given.Given as goal

-- the paths so far, with those that are left, are all
abbrev pub invariant-loop-one : goal.invariant-loop-one
invariant-loop-one l =
    map string_bytes l.paths.items ++ not_given l.module_path (drop l.one-index l.told) ≡ not_given l.module_path l.told
