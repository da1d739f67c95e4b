use Rattle.tree.specs.View.{expression_syntax}
use Rattle.tree.proofs.Views.{expression_form-Binary}
use Rattle.mentions.specs.MarkViews.{row_view}
use Rattle.mentions.proofs.Adding.{adds_nothing, adds_same, same_adds}
use Rattle.mentions.proofs.NilTests.{error_found, no_error, other_error}
use Rattle.mentions.proofs.found.found_error.Goals as goal

pub returns-then-compares : goal.returns-then-compares
returns-then-compares c =
    let l = expression_syntax c.deref.result.now in
    let r = expression_syntax c.deref-then-compares.result.now in
    rw (c.in-Binary.is, expression_form-Binary, ← c.deref.ensures, ← c.deref-then-compares.ensures)
    (same_adds c.error_operands.result c.args.marks.now.list.items c.error_operands.new.marks.list.items _ _
    (error_found c.args.site c.args.outcome c.in-Binary.operator l r c.args.condition.now.span (row_view c.args.row.now)
    c.if-compares.ensures)
    c.error_operands.ensures)

pub returns-else-compares : goal.returns-else-compares
returns-else-compares c =
    let l = expression_syntax c.in-Binary.left.value in
    let r = expression_syntax c.in-Binary.right.value in
    rw (c.in-Binary.is, expression_form-Binary)
    (adds_same _ _ _ _
    (no_error c.args.site c.args.outcome c.in-Binary.operator l r c.args.condition.now.span (row_view c.args.row.now)
    c.if-compares.ensures)
    (adds_nothing _))

pub returns-in_default : goal.returns-in_default
returns-in_default c =
    adds_same _ _ _ _
    (other_error c.args.site c.args.outcome (row_view c.args.row.now) c.args.condition.now.kind c.args.condition.now.span
    c.in_default.not-Binary)
    (adds_nothing _)
