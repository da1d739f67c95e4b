use Rattle.std.proofs.Common.{◌≡◌, drop, map}
use Rattle.package_list.specs.ListedValues.{import_of}
use Rattle.test_packages.specs.ReadPackages.{own_imports, same_imports}
use Rattle.test_packages.proofs.meant.same_imports.Given as goal

-- those that are left are the same where all are
abbrev pub invariant-loop-one : goal.invariant-loop-one
invariant-loop-one l =
    same_imports (own_imports (map import_of (drop l.one-index l.imports))) (own_imports (map import_of l.left))
    ≡ same_imports (own_imports (map import_of l.imports)) (own_imports (map import_of l.others))
