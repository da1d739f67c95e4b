use Rattle.std.proofs.Common.{◌≡◌, ◌≤◌, length, map, drop}
use Rattle.meaning.specs.Objects.{first_place}
use Rattle.tracked.specs.LocalViews.{object_row_view}
use Rattle.tracked.proofs.object_rows.first_place.Given as goal

-- the least of the rows from the index on was found
abbrev pub invariant-loop-index : goal.invariant-loop-index
invariant-loop-index l = record {
  within : l.index ≤ length l.rows;
  found : l.place ≡ first_place (object_row_view l.row) (map object_row_view (drop l.index l.rows));
}

abbrev pub decreases-loop-index : goal.decreases-loop-index
decreases-loop-index l = l.index
