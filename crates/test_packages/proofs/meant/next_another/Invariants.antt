use Rattle.std.proofs.Common.{◌≡◌, length, map}
use Rattle.package_list.specs.ListedValues.{import_of}
use Rattle.test_packages.specs.MeantImports.{cut}
use Rattle.test_packages.specs.ReadPackages.{own_imports}
use Rattle.test_packages.proofs.meant.next_another.Given as goal

-- the first of those that are left is the first of all
abbrev pub invariant-loop-imports : goal.invariant-loop-imports
invariant-loop-imports l =
    cut (own_imports (map import_of l.imports)) ≡ cut (own_imports (map import_of l.initial.imports))

abbrev pub decreases-loop-imports : goal.decreases-loop-imports
decreases-loop-imports l = length l.imports
