use Rattle.std.proofs.Common.{◌≡◌, ◌++◌, map}
use Rattle.std.specs.Vec.Iter.{into_iter_items}
use Rattle.accepting.specs.ByLines.{by_lines}
use Rattle.accepting.specs.Findings.{found_view}
use Rattle.accepting.proofs.found_packages.each_by_lines.Given as goal

-- the packages so far, with those that are left, are all
abbrev pub invariant-loop-one : goal.invariant-loop-one
invariant-loop-one l =
    map found_view l.found.items ++ map (by_lines l.tells_stale) (map found_view (into_iter_items l.one-iterator))
    ≡ map (by_lines l.tells_stale) (map found_view l.fn.packages.items)
