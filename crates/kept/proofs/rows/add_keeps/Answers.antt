use Rattle.std.proofs.Common.{map, sym, ap, ◌∙◌}
use Rattle.std.specs.List.{filter}
use Rattle.mentions.specs.MarkViews.{body_view, field_mark_view, mark_view}
use Rattle.tracked.specs.LocalViews.{seen_view}
use Rattle.meaning.specs.Kept.{keeps_there}
use Rattle.kept.specs.KeptViews.{is_there}
use Rattle.kept_forms.proofs.AddedParts.{ok_same, adds_none_of}
use Rattle.kept.proofs.Gatherings.{fields_keep, nothing_kept}
use Rattle.kept.proofs.rows.add_keeps.Goals as goal

pub returns-in-OfFields : goal.returns-in-OfFields
returns-in-OfFields c =
    let seen = seen_view c.args.around.seen.now in
    let bodies = map body_view c.args.around.bodies.now in
    ok_same c.add_stored.result _ _ _ _
    (ap (filter (is_there seen bodies)) (fields_keep seen bodies 0 (field_mark_view c.in-OfFields.field.now))
    ∙ ap (λ m. keeps_there seen bodies (mark_view m)) (sym c.in-OfFields.is))
    c.add_stored.ensures

pub returns-in_default : goal.returns-in_default
returns-in_default c =
    adds_none_of _ _
    (nothing_kept (seen_view c.args.around.seen.now) (map body_view c.args.around.bodies.now) c.args.mark
    c.in_default.not-Mentions c.in_default.not-OfFields)
