use Rattle.std.proofs.Common.{map, refl}
use Rattle.tracked.specs.LocalViews.{object_row_view}
use Rattle.objects.proofs.PlacedLefts.{next_left, all_lefts}
use Rattle.objects.proofs.lefts.placed_lefts.Goals as goal

pub loop-row-preserved : goal.loop-row-preserved
loop-row-preserved c = λ at.
    next_left (map object_row_view c.args.rows.now) at c.args.rows.now c.loop-row.row-index c.row-item.result
    c.loop-row-test.true c.row-item.is c.loop-row.lefts.items c.push.new.self.items _ _ c.in_ok-push.ensures.items refl
    c.left_by.ensures c.first_place.ensures _ (c.loop-row.invariant at)

pub returns : goal.returns
returns c = λ at.
    all_lefts (map object_row_view c.args.rows.now) at c.args.rows.now c.loop-row.row-index c.loop-row-test.false
    c.loop-row.lefts.items _ (c.loop-row.invariant at)
