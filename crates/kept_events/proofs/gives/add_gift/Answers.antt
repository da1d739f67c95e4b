use Rattle.std.proofs.Common.{map, sym, ap, ◌∙◌}
use Rattle.mentions.specs.MarkViews.{body_view}
use Rattle.tracked.specs.LocalViews.{seen_view}
use Rattle.meaning.specs.Kept.{gift_events, give_all, given_field, kept_there}
use Rattle.kept_forms.specs.FormViews.{gift_view}
use Rattle.kept_forms.proofs.AddedParts.{ok_same}
use Rattle.kept_events.proofs.gives.add_gift.Goals as goal

pub returns-in-Named : goal.returns-in-Named
returns-in-Named c =
    let seen = seen_view c.args.here.around.seen.now in
    let bodies = map body_view c.args.here.around.bodies.now in
    ok_same c.give_all.result _ _ _ _
    (ap give_all (c.kept_there.ensures ∙ ap (kept_there seen bodies) c.local_named-object.ensures)
    ∙ ap (λ g. gift_events seen bodies (gift_view g)) (sym c.in-Named.is))
    c.give_all.ensures

pub returns-in-Element : goal.returns-in-Element
returns-in-Element c =
    let seen = seen_view c.args.here.around.seen.now in
    let bodies = map body_view c.args.here.around.bodies.now in
    ok_same c.give_field.result _ _ _ _
    (ap given_field c.carried.ensures ∙ ap (λ g. gift_events seen bodies (gift_view g)) (sym c.in-Element.is))
    c.give_field.ensures
