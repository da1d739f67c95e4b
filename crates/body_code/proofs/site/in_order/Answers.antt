use Rattle.std.proofs.Common.{ap, ◌∙◌}
use Rattle.tree.proofs.Depths.{drop_item, drop_past}
use Rattle.body_code.specs.SiteViews.{sites_view}
use Rattle.code.specs.CodeViews.{sequence, event_codes}
use Rattle.code.proofs.Codes.{code_view-Does}
use Rattle.code.proofs.CodeLists.{pushed, all_pushed, sequence-events}
use Rattle.body_code.proofs.site.in_order.Goals as goal

pub loop-order-preserved : goal.loop-order-preserved
loop-order-preserved g c =
    let items = drop_item c.args.events.now c.loop-order.order c.index-events-order.result c.loop-order-test.true c.index-events-order.is in
    pushed _ _ _ _ _ _ _ c.in_ok-push.ensures.items (code_view-Does _) (ap (event_codes c.args.at c.loop-order.order) items)
    c.loop-order.invariant

pub returns : goal.returns
returns g c =
    let nothing = drop_past c.args.events.now c.loop-order.order c.loop-order-test.false in
    c.in_sequence.ensures
    ∙ ap sequence
    (all_pushed c.loop-order.codes.items _ _ (ap (event_codes c.args.at c.loop-order.order) nothing) c.loop-order.invariant)
    ∙ sequence-events (sites_view c.args.sites.now) c.args.at 0 c.args.events.now
