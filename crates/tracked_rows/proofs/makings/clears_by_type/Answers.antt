use Rattle.tracked_rows.specs.RowViews.{known_view}
use Rattle.tree.specs.View.{expression_syntax}
use Rattle.tracked_rows.proofs.OnlyValues.{cleared-with-values}
use Rattle.tracked_rows.proofs.makings.clears_by_type.Goals as goal

pub returns-then-not-is_empty : goal.returns-then-not-is_empty
returns-then-not-is_empty c =
    cleared-with-values (known_view c.args.known) (expression_syntax c.args.kind.now) c.args.values.now c.if-not-is_empty.ensures
