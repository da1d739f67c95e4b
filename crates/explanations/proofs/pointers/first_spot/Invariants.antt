use Rattle.std.proofs.Common.{◌≡◌, drop, map}
use Rattle.explanations.specs.Pointers.{first_spot}
use Rattle.whole_packages.specs.LoadedViews.{numbered_view}
use Rattle.explanations.proofs.pointers.first_spot.Given as goal

-- the first of those that are left is the first of all
abbrev pub invariant-loop-numbered : goal.invariant-loop-numbered
invariant-loop-numbered l =
    first_spot l.name (map numbered_view (drop l.numbered-index l.trees)) ≡ first_spot l.name (map numbered_view l.trees)
