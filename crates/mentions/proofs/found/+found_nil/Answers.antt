use Rattle.tree.specs.View.{expression_syntax}
use Rattle.tree.proofs.Views.{expression_form-Binary}
use Rattle.meaning.specs.Mentions.{nil_marks, nil_where}
use Rattle.mentions.proofs.Adding.{adds_nothing, adds_same, same_adds, then_adds}
use Rattle.mentions.proofs.NilTests.{both_found, test_found, none_found, other_found}
use Rattle.mentions.proofs.found.+found_nil.Goals as goal

pub returns-then-has_both : goal.returns-then-has_both
returns-then-has_both t c =
    let l = expression_syntax c.deref.result.now in
    let r = expression_syntax c.deref-then-has_both.result.now in
    let left = nil_marks c.args.site (nil_where c.args.outcome l) in
    let right = nil_marks c.args.site (nil_where c.args.outcome r) in
    let start = c.args.marks.now.list.items in
    let end = c.found_nil-then-has_both.new.marks.list.items in
    rw (c.in-Binary.is, expression_form-Binary, ← c.deref.ensures, ← c.deref-then-has_both.ensures)
    (same_adds c.found_nil-then-has_both.result start end _ _
    (both_found c.args.site c.args.outcome c.in-Binary.operator l r c.args.condition.now.span c.if-has_both.ensures)
    (then_adds c.found_nil-then-has_both.result start c.found_nil.new.marks.list.items end left right
    c.in_ok-found_nil-in-Binary.ensures c.found_nil-then-has_both.ensures))

pub returns-then-compares : goal.returns-then-compares
returns-then-compares t c =
    let l = expression_syntax c.deref-then-compares.result.now in
    let r = expression_syntax c.deref-then-compares-2.result.now in
    rw (c.in-Binary.is, expression_form-Binary, ← c.deref-then-compares.ensures, ← c.deref-then-compares-2.ensures)
    (same_adds c.nil_operands.result c.args.marks.now.list.items c.nil_operands.new.marks.list.items _ _
    (test_found c.args.site c.args.outcome c.in-Binary.operator l r c.args.condition.now.span c.if-has_both.ensures
    c.if-compares.ensures)
    c.nil_operands.ensures)

pub returns-else-compares : goal.returns-else-compares
returns-else-compares t c =
    let l = expression_syntax c.in-Binary.left.value in
    let r = expression_syntax c.in-Binary.right.value in
    rw (c.in-Binary.is, expression_form-Binary)
    (adds_same _ _ _ _
    (none_found c.args.site c.args.outcome c.in-Binary.operator l r c.args.condition.now.span c.if-has_both.ensures
    c.if-compares.ensures)
    (adds_nothing _))

pub returns-in_default : goal.returns-in_default
returns-in_default t c =
    adds_same _ _ _ _
    (other_found c.args.site c.args.outcome c.args.condition.now.kind c.args.condition.now.span c.in_default.not-Binary)
    (adds_nothing _)
