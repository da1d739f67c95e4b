use Rattle.std.proofs.Common.{◌≡◌, ℕ, map, drop}
use Rattle.meaning.specs.OuterBlocks.{or_else}
use Rattle.meaning.specs.Objects.{object_left}
use Rattle.tracked.specs.LocalViews.{object_row_view}
use Rattle.tracked_rows.specs.RowViews.{left_among}
use Rattle.objects.proofs.lefts.placed_lefts.Given as goal

-- what was found, or is told by the rows that are left, is what all tell
abbrev pub invariant-loop-row : goal.invariant-loop-row
invariant-loop-row l =
    (at : ℕ)
    → or_else (left_among l.lefts.items at)
    (object_left (map object_row_view l.rows) (map object_row_view (drop l.row-index l.rows)) at)
    ≡ object_left (map object_row_view l.rows) (map object_row_view l.rows) at
