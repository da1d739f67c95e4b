use Rattle.std.proofs.Common.{drop}
use Rattle.inputs.specs.Packages.{IsRead}
use Rattle.load.proofs.ZippedLists.{Zips}
use Rattle.inputs.proofs.packages.read_packages.Given as goal

-- what is read of the packages that are left completes what is read of all
abbrev pub invariant-loop-one : goal.invariant-loop-one
invariant-loop-one g l = Zips (IsRead l.edition) l.packages (drop l.one-index l.packages) l.given.items
