use Rattle.std.proofs.Common.{ap, ◌∙◌}
use Rattle.tracked_rows.specs.RowViews.{known_view}
use Rattle.tracked_rows.proofs.ValueForms.{is_nil_named, function_empty, empty_other}
use Rattle.tracked_rows.proofs.makings.is_empty_value.Goals as goal

pub returns-in-FuncLit : goal.returns-in-FuncLit
returns-in-FuncLit c = function_empty (known_view c.args.known) _ c.args.value.now.span _ c.in-FuncLit.is

pub returns-in-None : goal.returns-in-None
returns-in-None c =
    let known = known_view c.args.known in
    ap (is_nil_named known) (rw c.in-None.is at c.as_bare.ensures) ∙ empty_other known _ _ c.in_default.not-FuncLit
