use Rattle.std.proofs.Common.{[], map, ap, ◌∙◌}
use Rattle.std.specs.List.{list_any}
use Rattle.mentions.specs.MarkViews.{body_view, marks_view}
use Rattle.meaning.specs.Tracked.{Placed, placed}
use Rattle.tracked.specs.LocalViews.{seen_view}
use Rattle.kept.specs.KeptViews.{gives_there}
use Rattle.kept.proofs.MarksAsked.{one_found, none_found, none_left}
use Rattle.kept.proofs.PlacesGiven.{closes_nothing}
use Rattle.kept.proofs.holder.is_given_at.Goals as goal

pub loop-mark-init : goal.loop-mark-init
loop-mark-init c =
    let gives = gives_there (seen_view c.args.seen.now) c.args.address.object c.args.address.at in
    ap (λ bs. list_any (λ (p : Placed). gives p.bodies p.mark) (placed bs (marks_view c.deref-mark-items.result.now)))
    (ap (map body_view) c.new-bodies.ensures.items)

pub loop-mark-preserved : goal.loop-mark-preserved
loop-mark-preserved c =
    let x = c.args.address.object in
    let at = c.args.address.at in
    none_found (gives_there (seen_view c.args.seen.now) x at) (closes_nothing (seen_view c.args.seen.now) x at)
    c.deref-mark-items.result.now c.loop-mark.mark-index c.mark-item.result c.loop-mark-test.true c.mark-item.is
    c.loop-mark.bodies.items c.enter.new.bodies.items c.deref.result.now c.in_ok-enter.ensures c.deref.ensures.value
    c.in_ok-gives.gives c.in_ok-gives.ensures _ c.loop-mark.invariant c.if-gives.false

pub returns-then-gives : goal.returns-then-gives
returns-then-gives c =
    let x = c.args.address.object in
    let at = c.args.address.at in
    one_found (gives_there (seen_view c.args.seen.now) x at) (closes_nothing (seen_view c.args.seen.now) x at)
    c.deref-mark-items.result.now c.loop-mark.mark-index c.mark-item.result c.loop-mark-test.true c.mark-item.is
    c.loop-mark.bodies.items c.enter.new.bodies.items c.deref.result.now c.in_ok-enter.ensures c.deref.ensures.value
    c.in_ok-gives.gives c.in_ok-gives.ensures _
    (c.loop-mark.invariant
    ∙ ap (λ ms. list_any (λ (p : Placed). gives_there (seen_view c.args.seen.now) x at p.bodies p.mark) (placed [] (marks_view ms)))
    c.deref-mark-items.ensures.value) c.if-gives.true

pub returns : goal.returns
returns c =
    let x = c.args.address.object in
    let at = c.args.address.at in
    none_left (gives_there (seen_view c.args.seen.now) x at) (closes_nothing (seen_view c.args.seen.now) x at)
    c.deref-mark-items.result.now c.loop-mark.mark-index c.loop-mark-test.false (map body_view c.loop-mark.bodies.items) _
    (c.loop-mark.invariant
    ∙ ap (λ ms. list_any (λ (p : Placed). gives_there (seen_view c.args.seen.now) x at p.bodies p.mark) (placed [] (marks_view ms)))
    c.deref-mark-items.ensures.value)
