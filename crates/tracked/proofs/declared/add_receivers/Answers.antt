use Rattle.std.proofs.Common.{map, refl}
use Rattle.meaning.specs.Tracked.{receiver_locals}
use Rattle.facts.specs.FactViews.{item_view}
use Rattle.mentions.specs.MarkViews.{body_view}
use Rattle.tracked_rows.specs.RowViews.{known_view}
use Rattle.tracked.specs.LocalViews.{AddsLocals}
use Rattle.tracked.proofs.Added.{next_added, all_added, adds_item}
use Rattle.tracked.proofs.declared.add_receivers.Goals as goal

pub loop-item-preserved : goal.loop-item-preserved
loop-item-preserved c =
    let known = known_view c.args.known in
    let body = body_view c.args.body in
    next_added (λ items. receiver_locals known body (map item_view items)) (λ items. receiver_locals known body (map item_view items)) c.args.items.now c.loop-item.item-index
    c.item-item.result c.loop-item-test.true c.item-item.is _ refl c.loop-item.locals c.add_item.new.locals
    (λ end. AddsLocals c.args.locals.now end (receiver_locals known body (map item_view c.args.items.now)))
    (adds_item c.loop-item.locals c.add_item.new.locals body _ _ _ _ (item_view c.item-item.result).name
    c.parameter_role-role.ensures c.item_type-typed.ensures c.in_ok-add_item.ensures) c.loop-item.invariant

pub returns : goal.returns
returns c =
    let known = known_view c.args.known in
    let body = body_view c.args.body in
    all_added (λ items. receiver_locals known body (map item_view items)) (λ items. receiver_locals known body (map item_view items)) c.args.items.now c.loop-item.item-index
    c.loop-item-test.false refl c.loop-item.locals
    (λ end. AddsLocals c.args.locals.now end (receiver_locals known body (map item_view c.args.items.now))) c.loop-item.invariant
