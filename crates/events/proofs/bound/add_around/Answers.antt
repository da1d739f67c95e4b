use Rattle.std.proofs.Common.{◌+◌, List, drop, map, ap, nat_eq}
use Rattle.std.proofs.lemmas.List.{at_drop_all}
use Rattle.std.specs.Prelude.{◌==◌}
use Rattle.tree.proofs.Depths.{drop_item}
use Rattle.mentions.specs.declared.mark.BodyPlace.{BodyPlace as KeptBody}
use Rattle.meaning.specs.BodyEvents.{is_around}
use Rattle.mentions.specs.MarkViews.{body_view}
use Rattle.events.proofs.Bounds.{around_next, around_end}
use Rattle.events.proofs.bound.add_around.Goals as goal

pub loop-body-preserved : goal.loop-body-preserved
loop-body-preserved c = λ b other.
    around_next _ _ (nat_eq c.body-item.result.at b) (c.args.number == other) _
    (is_around b (map body_view (drop (c.loop-body.body-index + 1) c.args.bodies.now))) _
    (c.in_ok-add_number.ensures b other)
    (ap (λ (bs : List KeptBody). is_around b (map body_view bs))
    (drop_item c.args.bodies.now c.loop-body.body-index c.body-item.result c.loop-body-test.true c.body-item.is))
    (c.loop-body.invariant b other)

pub returns : goal.returns
returns c = λ b other.
    around_end _ _ (c.args.number == other) _
    (at_drop_all (λ (bs : List KeptBody). is_around b (map body_view bs)) c.args.bodies.now c.loop-body.body-index
    c.loop-body-test.false)
    (c.loop-body.invariant b other)
