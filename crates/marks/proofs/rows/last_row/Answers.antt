use Rattle.std.proofs.Common.{option_map, ap}
use Rattle.mentions.specs.MarkViews.{row_view}
use Rattle.tree.specs.View.{specs_syntax}
use Rattle.tree.proofs.Depths.{drop_item}
use Rattle.marks.proofs.FoundOut.{row_next}
use Rattle.marks.proofs.rows.last_row.Goals as goal

pub loop-spec-preserved : goal.loop-spec-preserved
loop-spec-preserved c =
    let items = drop_item c.args.specs.now c.loop-spec.spec-index c.spec-item.result c.loop-spec-test.true c.spec-item.is in
    row_next c.args.keyword c.args.at (option_map row_view c.loop-spec.row) _ _ c.spec-item.result _ _
    (ap specs_syntax items) c.row_of_spec-found.ensures c.loop-spec.invariant
