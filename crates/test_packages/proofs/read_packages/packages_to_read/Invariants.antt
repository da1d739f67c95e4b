use Rattle.std.proofs.Common.{◌≡◌, ◌++◌, drop, map}
use Rattle.package_list.specs.ListedValues.{package_of}
use Rattle.test_packages.specs.KnownPaths.{firsts_of, knows}
use Rattle.test_packages.specs.ReadPackages.{entry_of, none_yet, read_from}
use Rattle.test_packages.proofs.read_packages.packages_to_read.Given as goal

-- what was read so far, with what is read of the packages that are left, is what is read of all
abbrev pub invariant-loop-listed : goal.invariant-loop-listed
invariant-loop-listed l =
    map entry_of l.read.items
    ++ read_from (knows l.told.own_tests) (knows l.told.asked) (firsts_of l.firsts) (map package_of (drop l.listed-index l.packages))
    ≡ read_from (knows l.told.own_tests) (knows l.told.asked) none_yet (map package_of l.packages)
