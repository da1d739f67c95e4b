use Rattle.std.specs.Vec.Iter.{into_iter_items}
use Rattle.load.specs.Ahead.{files_of, AreReadAhead}
use Rattle.load.specs.GivenPackages.{IsReadAs}
use Rattle.load.proofs.ZippedLists.{Zips}
use Rattle.load.proofs.packages.load_all.Given as goal

-- what is read of the packages that are left completes what is read of all, and of their files so much is read ahead
abbrev pub invariant-loop-one : goal.invariant-loop-one
invariant-loop-one l =
    Zips IsReadAs l.fn.packages.items l.one-iterator.rest.items l.loaded.items
    × AreReadAhead (files_of l.one-iterator.rest.items) (into_iter_items l.ahead)
