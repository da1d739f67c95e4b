use Rattle.std.proofs.Common.{◌≡◌, ◌++◌, map, drop}
use Rattle.whole_packages.specs.CountedViews.{kept_counts}
use Rattle.given_packages.proofs.counted.counted_packages.Given as goal

-- the marks so far, with those of the packages that are left, are all
abbrev pub invariant-loop-loaded : goal.invariant-loop-loaded
invariant-loop-loaded l =
    l.marks.items ++ map kept_counts (drop l.loaded-index l.packages) ≡ map kept_counts l.packages
