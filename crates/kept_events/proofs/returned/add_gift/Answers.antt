use Rattle.std.proofs.Common.{map, sym, ap, ◌∙◌}
use Rattle.mentions.specs.MarkViews.{body_view}
use Rattle.tracked.specs.LocalViews.{seen_view}
use Rattle.meaning.specs.Kept.{handed_field, handed_gift, kept_there}
use Rattle.kept_forms.specs.FormViews.{gift_view}
use Rattle.kept_forms.proofs.AddedParts.{ok_same}
use Rattle.kept_events.specs.KeptEventViews.{handed_keeps}
use Rattle.kept_events.proofs.returned.add_gift.Goals as goal

pub returns-in-Named : goal.returns-in-Named
returns-in-Named c =
    let seen = seen_view c.args.here.around.seen.now in
    let bodies = map body_view c.args.here.around.bodies.now in
    ok_same c.add_keeps.result _ _ _ _
    (ap (handed_keeps c.args.position) (c.kept_there.ensures ∙ ap (kept_there seen bodies) c.local_named-object.ensures)
    ∙ ap (λ g. handed_gift seen bodies c.args.position (gift_view g)) (sym c.in-Named.is))
    c.add_keeps.ensures

pub returns-in-Element : goal.returns-in-Element
returns-in-Element c =
    let seen = seen_view c.args.here.around.seen.now in
    let bodies = map body_view c.args.here.around.bodies.now in
    ok_same c.add_carried.result _ _ _ _
    (ap (handed_field c.args.position) c.carried.ensures
    ∙ ap (λ g. handed_gift seen bodies c.args.position (gift_view g)) (sym c.in-Element.is))
    c.add_carried.ensures
