use Rattle.std.proofs.Common.{◌+◌, drop, ap, ◌∙◌}
use Rattle.meaning.specs.Scopes.{bare_names}
use Rattle.tree.specs.View.{expression_syntax, expressions_syntax}
use Rattle.tree.proofs.Depths.{drop_item}
use Rattle.scopes.proofs.ReceiverNames.{bare_next, bare_more}
use Rattle.scopes.proofs.receivers.add_arguments.Goals as goal

pub loop-argument-preserved : goal.loop-argument-preserved
loop-argument-preserved c =
    let list = c.args.arguments.now in
    let i = c.loop-argument.argument-index in
    bare_next _ _ _ _ _ _ c.loop-argument.invariant
    (ap (λ l. bare_names (expressions_syntax l)) (drop_item list i c.argument-item.result c.loop-argument-test.true c.argument-item.is)
    ∙ bare_more (expression_syntax c.argument-item.result) (expressions_syntax (drop (i + 1) list)))
    c.in_ok-add_argument.ensures
