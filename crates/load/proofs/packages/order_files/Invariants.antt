use Rattle.load.specs.GivenPackages.{IsByName}
use Rattle.load.proofs.ZippedLists.{Zips}
use Rattle.load.proofs.packages.order_files.Given as goal

-- what stands for the packages that are left completes what stands for all
abbrev pub invariant-loop-path : goal.invariant-loop-path
invariant-loop-path l = Zips IsByName l.fn.packages.entries l.path-iterator l.ordered.items
