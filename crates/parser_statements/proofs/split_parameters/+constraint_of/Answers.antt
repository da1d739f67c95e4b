use Rattle.std.proofs.Common.{sym, subst}
use Rattle.tree.specs.View.{expression_syntax}
use Rattle.parser_base.specs.Gives.{Gives}
use Rattle.parser_base.proofs.Faults.{is_stopped}
use Rattle.parser_statements.specs.SplitConstraint.{constraint_of}
use Rattle.parser_statements.proofs.SplitForms.{no_split, other_operator, pointed, united, not_united, spread, alone}
use Rattle.parser_statements.proofs.split_parameters.+constraint_of.Goals as goal

pub returns-in-Or : goal.returns-in-Or
unfolding constraint_of
returns-in-Or t c =
    not_united _ c.args.length.kind c.in-Binary.operator c.in-Binary.left c.in-Binary.right c.in-Binary.is c.in-Or.is
    _ c.into_inner-inner.ensures _ c.in-Err-holding.ensures

pub returns-in-Ok-holding-kept : goal.returns-in-Ok-holding-kept
unfolding constraint_of
returns-in-Ok-holding-kept t c =
    rw (c.binary_expression.ensures, c.in-Ok-holding-kept.ensures)
    (united _ c.args.length.kind c.in-Binary.operator c.in-Binary.left c.in-Binary.right c.in-Binary.is c.in-Or.is
    _ c.into_inner-inner.ensures _ c.in-Ok-holding.ensures)

pub returns-in-Multiply : goal.returns-in-Multiply
unfolding constraint_of
returns-in-Multiply t c =
    rw c.star_expression.ensures
    (pointed _ c.args.length.kind c.in-Binary.operator c.in-Binary.left c.in-Binary.right c.in-Binary.is
    c.in-Multiply.is)

pub returns-in_default-operator : goal.returns-in_default-operator
unfolding constraint_of
returns-in_default-operator t c =
    is_stopped c.unexpected.result _ (other_operator _ c.args.length.kind c.in-Binary.operator c.in-Binary.left
    c.in-Binary.right c.in-Binary.is c.in_default-operator.not-Or c.in_default-operator.not-Multiply)

pub returns-in_default : goal.returns-in_default
unfolding constraint_of
returns-in_default t c =
    is_stopped c.unexpected-in_default.result _
    (no_split _ c.args.length.kind c.in_default.not-Binary c.in_default.not-Call)

pub returns-then-has_ellipsis : goal.returns-then-has_ellipsis
unfolding constraint_of
returns-then-has_ellipsis t c =
    is_stopped c.unexpected-then-has_ellipsis.result _ (spread _ c.args.length.kind c.in-Call.callee
    c.in-Call.arguments c.in-Call.has_ellipsis c.in-Call.is c.if-has_ellipsis.true)

pub returns-else-has_ellipsis : goal.returns-else-has_ellipsis
unfolding constraint_of
returns-else-has_ellipsis t c =
    subst (Gives expression_syntax c.parenthesized.result)
    (sym (alone record { start = c.args.start; end = c.args.length.span.end } c.args.length.kind c.in-Call.callee
    c.in-Call.arguments c.in-Call.has_ellipsis c.in-Call.is c.if-has_ellipsis.false)) c.parenthesized.ensures
