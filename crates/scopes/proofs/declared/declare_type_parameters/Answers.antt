use Rattle.std.proofs.Common.{ap, ◌∙◌}
use Rattle.meaning.specs.Scopes.{type_parameters_declared, parameters_named}
use Rattle.tree.specs.View.{parameters_syntax}
use Rattle.tree.proofs.Depths.{drop_item}
use Rattle.scopes.proofs.Adding.{adds_next, type_parameters_more}
use Rattle.scopes.proofs.declared.declare_type_parameters.Goals as goal

pub loop-param-preserved : goal.loop-param-preserved
loop-param-preserved c =
    let items = drop_item c.args.params.now c.loop-param.param-index c.param-item.result c.loop-param-test.true c.param-item.is in
    adds_next _ _ _ _ _ _ c.loop-param.invariant
    (ap (λ l. type_parameters_declared c.args.block (parameters_named (parameters_syntax l))) items ∙ type_parameters_more _ _ _)
    c.in_ok-declare_named.ensures
