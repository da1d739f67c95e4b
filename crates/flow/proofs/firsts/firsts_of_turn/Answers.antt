use Rattle.std.proofs.Common.{sym, ◌∙◌}
use Rattle.flow.proofs.FirstNodes.{if_ok}
use Rattle.flow.proofs.TurnCounts.{firsts_known, firsts_unknown}
use Rattle.flow.proofs.firsts.firsts_of_turn.Goals as goal

pub returns-then-begins_with_event : goal.returns-then-begins_with_event
returns-then-begins_with_event g c =
    if_ok c.only.result
    (λ v h. firsts_known c.args.from _ _ c.args.sizes.now.left.now _ c.take.result c.saturating_add-past.result
    c.saturating_sub.result v (sym c.begins_with_event.ensures ∙ c.if-begins_with_event.true) c.take.ensures.size
    c.saturating_add-past.ensures c.take.ensures.left h c.saturating_sub.ensures)
    c.only.ensures

pub returns : goal.returns
returns g c =
    if_ok c.firsts.result (λ v h. firsts_unknown _ _ _ _ _ _ v (sym c.begins_with_event.ensures ∙ c.if-begins_with_event.false) h) c.firsts.ensures
