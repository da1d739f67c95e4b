use Rattle.std.proofs.Common.{◌≡◌, drop}
use Rattle.explanations.specs.Found.{first_told}
use Rattle.explanations.specs.ToldViews.{told_views}
use Rattle.path_faults.specs.FaultViews.{fault_view}
use Rattle.explanations.proofs.way_of.first_told.Given as goal

-- the first of those that are left is the first of all
abbrev pub invariant-loop-one : goal.invariant-loop-one
invariant-loop-one l =
    first_told (fault_view l.fault) (told_views (drop l.one-index l.told))
    ≡ first_told (fault_view l.fault) (told_views l.told)
