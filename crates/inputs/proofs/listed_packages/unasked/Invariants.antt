use Rattle.std.proofs.Common.{◌≡◌, ◌++◌, drop, map, string_bytes}
use Rattle.test_packages.specs.ReadPackages.{entry_of}
use Rattle.inputs.specs.Packages.{unasked}
use Rattle.inputs.proofs.listed_packages.unasked.Given as goal

-- the paths so far, with those of the packages that are left, are all
abbrev pub invariant-loop-read : goal.invariant-loop-read
invariant-loop-read l =
    map string_bytes l.paths.items ++ unasked (map entry_of (drop l.read-index l.packages))
    ≡ unasked (map entry_of l.packages)
