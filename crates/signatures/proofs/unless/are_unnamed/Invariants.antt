use Rattle.std.proofs.Common.{◌≡◌, map, drop}
use Rattle.facts.specs.FactViews.{item_view}
use Rattle.signatures.specs.Returned.{are_unnamed}
use Rattle.signatures.proofs.unless.are_unnamed.Given as goal

-- the test of the results that are left is that of all
abbrev pub invariant-loop-item : goal.invariant-loop-item
invariant-loop-item l =
    are_unnamed (map item_view (drop l.item-index l.results)) ≡ are_unnamed (map item_view l.results)
