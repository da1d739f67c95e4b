use Rattle.std.proofs.Common.{map, sym, ap, ◌∙◌}
use Rattle.facts.proofs.FactParts.{on_ok}
use Rattle.facts.proofs.ListedItems.{listed-map}
use Rattle.mentions.specs.MarkViews.{body_view, mark_view}
use Rattle.tracked.specs.LocalViews.{seen_view}
use Rattle.meaning.specs.KeepingFields.{carried_fields, given_elements, item_elements}
use Rattle.kept_forms.proofs.AddedParts.{adds_same, ok_same, adds_none_of}
use Rattle.kept_events.proofs.KeptParts.{all_values, no_given}
use Rattle.kept_events.proofs.told_names.add_carried.Goals as goal

pub returns-in-OfFields : goal.returns-in-OfFields
returns-in-OfFields c =
    let seen = seen_view c.args.here.around.seen.now in
    let bodies = map body_view c.args.here.around.bodies.now in
    on_ok c.add_given.result
    (λ added. adds_same _ _ _ _ (ap (λ m. carried_fields seen bodies (given_elements seen (mark_view m))) (sym c.in-OfFields.is)) (added 0))
    c.add_given.ensures

pub returns-in-Returns : goal.returns-in-Returns
returns-in-Returns c =
    ok_same c.add_values.result _ _ _ _
    (all_values (seen_view c.args.here.around.seen.now) (map body_view c.args.here.around.bodies.now) _
    ∙ ap (λ es. carried_fields (seen_view c.args.here.around.seen.now) (map body_view c.args.here.around.bodies.now) (item_elements es))
    (sym (listed-map c.in-Returns.values.now))
    ∙ ap (λ m. carried_fields (seen_view c.args.here.around.seen.now) (map body_view c.args.here.around.bodies.now)
    (given_elements (seen_view c.args.here.around.seen.now) (mark_view m))) (sym c.in-Returns.is))
    c.add_values.ensures

pub returns-in_default : goal.returns-in_default
returns-in_default c =
    adds_none_of _ _
    (ap (carried_fields (seen_view c.args.here.around.seen.now) (map body_view c.args.here.around.bodies.now))
    (no_given (seen_view c.args.here.around.seen.now) c.args.mark.now c.in_default.not-OfFields c.in_default.not-Returns))
