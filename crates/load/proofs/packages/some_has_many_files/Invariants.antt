use Rattle.std.proofs.Common.{◌≡◌, drop}
use Rattle.std.specs.List.{list_any}
use Rattle.load.specs.GivenPackages.{has_many_files}
use Rattle.load.proofs.packages.some_has_many_files.Given as goal

-- the test of those that are left is that of all
abbrev pub invariant-loop-one : goal.invariant-loop-one
invariant-loop-one l = list_any has_many_files (drop l.one-index l.given) ≡ list_any has_many_files l.given
