use Rattle.mentions.specs.MarkViews.{row_view}
use Rattle.tracked_rows.specs.RowViews.{known_view}
use Rattle.tracked_rows.proofs.ValueForms.{made-literal, made-call}
use Rattle.tracked_rows.proofs.makings.made_by_value.Goals as goal

pub returns-in-Unary : goal.returns-in-Unary
returns-in-Unary c =
    made-literal (known_view c.args.known) (row_view c.args.row) _ c.args.value.now.span _ _ _ c.count.ensures _ _ _ _
    c.in-Unary.is c.deref.ensures c.as_new_literal.ensures c.made_by_literal.ensures

pub returns-in_default : goal.returns-in_default
returns-in_default c =
    made-call (known_view c.args.known) (row_view c.args.row) _ c.args.value.now.span _ _ _ c.count-in_default.ensures _
    c.in_default.not-Unary c.call_in.ensures c.made_by_call.ensures
