use Rattle.std.proofs.Common.{◌≡◌, ◌++◌, map, string_bytes}
use Rattle.std.specs.Vec.Iter.{into_iter_items}
use Rattle.accepting.specs.Findings.{found_view}
use Rattle.accepting.specs.Found.{asked_among}
use Rattle.accepting.proofs.found_packages.asked_among.Given as goal

-- those so far, with those among the packages that are left, are all
abbrev pub invariant-loop-one : goal.invariant-loop-one
invariant-loop-one l =
    map found_view l.asked.items
    ++ asked_among (map string_bytes l.unasked) (map found_view (into_iter_items l.one-iterator))
    ≡ asked_among (map string_bytes l.unasked) (map found_view l.fn.packages.items)
