use Rattle.std.proofs.Common.{ap, ◌∙◌}
use Rattle.meaning.specs.Scopes.{named_in_types}
use Rattle.tree.specs.View.{parameters_syntax}
use Rattle.tree.proofs.Depths.{drop_item}
use Rattle.scopes.proofs.ReceiverNames.{bare_next, types_more}
use Rattle.scopes.proofs.receivers.named_in_types.Goals as goal

pub loop-param-preserved : goal.loop-param-preserved
loop-param-preserved c =
    let items = drop_item c.args.params.now c.loop-param.param-index c.param-item.result c.loop-param-test.true c.param-item.is in
    bare_next _ _ _ _ _ _ c.loop-param.invariant (ap (λ l. named_in_types (parameters_syntax l)) items ∙ types_more _ _) c.in_ok-add_parameter.ensures
