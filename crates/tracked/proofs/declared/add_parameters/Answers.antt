use Rattle.std.proofs.Common.{◌+◌, map, refl}
use Rattle.meaning.specs.Tracked.{parameter_locals}
use Rattle.facts.specs.FactViews.{item_view}
use Rattle.mentions.specs.MarkViews.{body_view}
use Rattle.tracked_rows.specs.RowViews.{known_view}
use Rattle.tracked.specs.LocalViews.{AddsLocals}
use Rattle.tracked.proofs.Added.{next_added, all_added, adds_item}
use Rattle.tracked.proofs.declared.add_parameters.Goals as goal

pub loop-position-preserved : goal.loop-position-preserved
loop-position-preserved c =
    let known = known_view c.args.known in
    let body = body_view c.args.body in
    next_added (λ items. parameter_locals known body c.loop-position.position (map item_view items)) (λ items. parameter_locals known body (c.loop-position.position + 1) (map item_view items)) c.args.items.now c.loop-position.position
    c.index-items-position.result c.loop-position-test.true c.index-items-position.is _ refl c.loop-position.locals c.add_item.new.locals
    (λ end. AddsLocals c.args.locals.now end (parameter_locals known body 0 (map item_view c.args.items.now)))
    (adds_item c.loop-position.locals c.add_item.new.locals body _ _ _ _ (item_view c.index-items-position.result).name
    c.parameter_role-role.ensures c.item_type-typed.ensures c.in_ok-add_item.ensures) c.loop-position.invariant

pub returns : goal.returns
returns c =
    let known = known_view c.args.known in
    let body = body_view c.args.body in
    all_added (λ items. parameter_locals known body c.loop-position.position (map item_view items)) (λ items. parameter_locals known body c.loop-position.position (map item_view items)) c.args.items.now c.loop-position.position
    c.loop-position-test.false refl c.loop-position.locals
    (λ end. AddsLocals c.args.locals.now end (parameter_locals known body 0 (map item_view c.args.items.now))) c.loop-position.invariant
