use Rattle.std.proofs.Common.{arith}
use Rattle.facts.proofs.Gathered.{gathered-init, gathered-more}
use Rattle.facts.proofs.items.parameter_items.Goals as goal

pub loop-start-init : goal.loop-start-init
loop-start-init c = gathered-init _ c.new-items.ensures.items _

pub loop-start-preserved : goal.loop-start-preserved
loop-start-preserved c =
    gathered-more c.loop-start.items.items c.loop-start.next c.args.params.now c.loop-start.start c.loop-start.invariant
    _ (omega arith) _ c.index-params-start.is _ c.item_before-item.ensures _ c.in_ok-push.ensures.items
