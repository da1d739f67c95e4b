use Rattle.std.proofs.Common.{map}
use Rattle.std.specs.Vec.Iter.{into_iter_items}
use Rattle.accepting.specs.ByBaseline.{baseline_keys}
use Rattle.accepting.specs.Findings.{found_view}
use Rattle.accepting.proofs.ToldByBaseline.{PackagesGoOn}
use Rattle.accepting.proofs.baseline.by_baseline.Given as goal

-- what is told of the packages that are left completes what is told of all
abbrev pub invariant-loop-one : goal.invariant-loop-one
invariant-loop-one l =
    PackagesGoOn (baseline_keys l.baseline) (map found_view l.fn.packages.items)
    (map found_view (into_iter_items l.one-iterator)) (map found_view l.told.items) l.counts
