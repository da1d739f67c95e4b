use Rattle.std.proofs.Common.{◌≡◌, ◌++◌, drop, map}
use Rattle.load.specs.MeantPaths.{meant_of}
use Rattle.package_list.specs.ListedValues.{import_of}
use Rattle.test_packages.specs.ReadPackages.{own_imports}
use Rattle.inputs.specs.Packages.{meant_by}
use Rattle.inputs.proofs.listed_packages.meant_imports.Given as goal

-- what is said so far, with what is said of the imports that are left, is all
abbrev pub invariant-loop-import : goal.invariant-loop-import
invariant-loop-import l =
    map meant_of l.meant.items ++ map meant_by (own_imports (map import_of (drop l.import-index l.imports)))
    ≡ map meant_by (own_imports (map import_of l.imports))
