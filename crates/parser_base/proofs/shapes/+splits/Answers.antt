use Rattle.std.proofs.Common.{◌∙◌}
use Rattle.tree.specs.View.{expression_syntax, expressions_syntax}
use Rattle.tree.proofs.Views.{expression_form-Binary, expression_form-Call}
use Rattle.meaning.specs.TypeParameters.{splits, split_has_type}
use Rattle.parser_base.proofs.ReadForms.{splits_other, splits_binary, splits_spread, splits_one, splits_more, single_is, single_none}
use Rattle.parser_base.proofs.shapes.+splits.Goals as goal

pub returns-in-Multiply : goal.returns-in-Multiply
unfolding splits
returns-in-Multiply t c =
    rw (c.in-Binary.is, expression_form-Binary, c.in-Multiply.is, ← c.deref.ensures) c.is_name.ensures

pub returns-in-Or : goal.returns-in-Or
unfolding splits
returns-in-Or t c =
    rw (c.in-Binary.is, expression_form-Binary, c.in-Or.is, ← c.deref-in-Or.ensures) c.splits.ensures

pub returns-in_default-operator : goal.returns-in_default-operator
unfolding splits split_has_type
returns-in_default-operator t c =
    rw (c.in-Binary.is, expression_form-Binary)
    (splits_binary _ _ _ c.in_default-operator.not-Multiply c.in_default-operator.not-Or).0

pub returns-then-has_ellipsis : goal.returns-then-has_ellipsis
unfolding splits split_has_type
returns-then-has_ellipsis t c =
    rw (c.in-Call.is, expression_form-Call, c.if-has_ellipsis.true) (splits_spread (expression_syntax c.in-Call.callee.value) (expressions_syntax c.in-Call.arguments.items)).0

pub returns-in-Some : goal.returns-in-Some
unfolding splits split_has_type
returns-in-Some t c =
    rw (c.in-Call.is, expression_form-Call, c.if-has_ellipsis.false, ← c.deref-in-Some.ensures, ← c.deref-else-has_ellipsis.ensures.value)
    (c.is_name-in-Some.ensures ∙ (splits_one (expression_syntax c.deref-in-Some.result.now) _ _ (single_is _ _ _ c.only.ensures _ c.in-Some.is)).0)

pub returns-in-None : goal.returns-in-None
unfolding splits split_has_type
returns-in-None t c =
    rw (c.in-Call.is, expression_form-Call, c.if-has_ellipsis.false, ← c.deref-else-has_ellipsis.ensures.value)
    (splits_more (expression_syntax c.in-Call.callee.value) _ (single_none _ _ _ c.only.ensures c.in-None.is)).0

pub returns-in_default : goal.returns-in_default
unfolding splits split_has_type
returns-in_default t c = (splits_other _ c.in_default.not-Binary c.in_default.not-Call).0
