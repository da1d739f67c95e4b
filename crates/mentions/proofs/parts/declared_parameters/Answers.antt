use Rattle.std.proofs.Common.{ap, ◌∙◌}
use Rattle.meaning.specs.Mentions.{declared_elsewhere}
use Rattle.meaning.specs.Scopes.{parameters_named}
use Rattle.tree.specs.View.{parameters_syntax}
use Rattle.tree.proofs.Depths.{drop_item}
use Rattle.mentions.proofs.Adding.{adds_next, parameters_named_more}
use Rattle.mentions.proofs.parts.declared_parameters.Goals as goal

pub loop-param-preserved : goal.loop-param-preserved
loop-param-preserved c =
    let items = drop_item c.args.params.now c.loop-param.param-index c.param-item.result c.loop-param-test.true c.param-item.is in
    adds_next _ _ _ _ _ _ c.loop-param.invariant
    (ap (λ l. declared_elsewhere c.args.site (parameters_named (parameters_syntax l))) items ∙ parameters_named_more _ _ _)
    c.in_ok-declared_parameter.ensures
