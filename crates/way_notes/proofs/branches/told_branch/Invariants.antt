use Rattle.std.proofs.Common.{◌≡◌, drop, map}
use Rattle.reasons.specs.WordViews.{branch_view}
use Rattle.way_notes.specs.Notes.{branch_at}
use Rattle.way_notes.proofs.branches.told_branch.Given as goal

-- the first of those that are left is the first of all
abbrev pub invariant-loop-branch : goal.invariant-loop-branch
invariant-loop-branch l =
    branch_at (map branch_view (drop l.branch-index l.branches)) l.at ≡ branch_at (map branch_view l.branches) l.at
