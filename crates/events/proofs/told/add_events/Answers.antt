use Rattle.std.proofs.Common.{◌≡◌, [], ◌&&◌, map, arith}
use Rattle.std.proofs.lemmas.List.{nil_from_length}
use Rattle.std.specs.Vec.Iter.{into_iter_items}
use Rattle.meaning.specs.BodyEvents.{is_site}
use Rattle.meaning.specs.Uses.{is_body}
use Rattle.mentions.specs.MarkViews.{body_view, mark_view}
use Rattle.events.proofs.MarkEvents.{none_of_left, next_of_left}
use Rattle.events.proofs.told.add_events.Goals as goal

pub loop-event-preserved : goal.loop-event-preserved
loop-event-preserved c = λ body at.
    next_of_left (is_body body (map body_view c.args.bodies.now) && is_site (mark_view c.args.mark.now) at)
    (into_iter_items c.loop-event.event-iterator) (into_iter_items c.next.new.self) c.in-Some.event
    c.in-Some.ensures.steps.0 _ _ _ (c.in_ok-add_event.ensures body at) (c.loop-event.invariant body at)

pub returns : goal.returns
returns c =
    let left = c.loop-event.event-iterator.rest in
    let none : left.items ≡ [] = nil_from_length left.items (omega (arith, left.ok, c.in-None.ensures.steps.0)) in
    λ body at.
    none_of_left (is_body body (map body_view c.args.bodies.now) && is_site (mark_view c.args.mark.now) at) left.items none _ _
    (c.loop-event.invariant body at)
