use Rattle.std.proofs.Common.{◌≡◌, ◌++◌, map, drop}
use Rattle.unit_reports.specs.UnitParts.{package_in}
use Rattle.unit_reports.proofs.units.packages_in.Given as goal

-- the packages so far, with those that are left, are all
abbrev pub invariant-loop-one : goal.invariant-loop-one
invariant-loop-one l = l.packages.items ++ map package_in (drop l.one-index l.read) ≡ map package_in l.read
