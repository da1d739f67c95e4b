use Rattle.std.proofs.Common.{◌≡◌, ◌++◌, map}
use Rattle.std.specs.Vec.Iter.{into_iter_items}
use Rattle.accepting.specs.Findings.{found_view, explained_package}
use Rattle.accepting.proofs.found_packages.explained_packages.Given as goal

-- the packages so far, with those that are left, are all
abbrev pub invariant-loop-one : goal.invariant-loop-one
invariant-loop-one l =
    map found_view l.found.items ++ map explained_package (into_iter_items l.one-iterator)
    ≡ map explained_package l.fn.packages.items
