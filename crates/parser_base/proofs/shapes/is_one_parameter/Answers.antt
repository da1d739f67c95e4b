use Rattle.std.proofs.Common.{◌∙◌}
use Rattle.parser_base.proofs.Constrained.{none_or_more, one_other, one_named}
use Rattle.parser_base.proofs.ReadForms.{both_none, both_so}
use Rattle.parser_base.proofs.shapes.is_one_parameter.Goals as goal

pub returns-then-params-ne1 : goal.returns-then-params-ne1
returns-then-params-ne1 c = none_or_more c.args.params.now c.if-params-ne1.true

pub returns-then-joins : goal.returns-then-joins
returns-then-joins c =
    both_so _ _ _ c.joins.ensures c.if-joins.true _ c.has_type.ensures
    ∙ one_named c.args.params.now _ c.if-params-ne1.false c.index-params-0.is _ _ _ c.in-Named.is

pub returns-else-joins : goal.returns-else-joins
returns-else-joins c =
    both_none _ _ _ c.joins.ensures c.if-joins.false
    ∙ one_named c.args.params.now _ c.if-params-ne1.false c.index-params-0.is _ _ _ c.in-Named.is

pub returns-in_default : goal.returns-in_default
returns-in_default c = one_other c.args.params.now _ c.if-params-ne1.false c.index-params-0.is c.in_default.not-Named
