use Rattle.std.proofs.Common.{◌≡◌, ◌||◌, ℕ, List, drop, map}
use Rattle.package_list.specs.ListedValues.{package_of}
use Rattle.test_packages.specs.KnownPaths.{knows}
use Rattle.test_packages.specs.ReadPackages.{has_own_tests}
use Rattle.test_packages.proofs.own_tests.own_tests.Given as goal

-- what is told of a path so far, or by the packages that are left, is what all tell
abbrev pub invariant-loop-listed : goal.invariant-loop-listed
invariant-loop-listed l =
    (path : List ℕ)
    → (knows l.paths path || has_own_tests (map package_of (drop l.listed-index l.packages)) path)
    ≡ has_own_tests (map package_of l.packages) path
