use Rattle.std.proofs.Common.{◌≡◌, drop}
use Rattle.tracked_rows.specs.RowViews.{left_among}
use Rattle.tracked_rows.proofs.fields.left_among.Given as goal

-- what is told by those that are left is told by all
abbrev pub invariant-loop-placed : goal.invariant-loop-placed
invariant-loop-placed l = left_among (drop l.placed-index l.lefts) l.at ≡ left_among l.lefts l.at
