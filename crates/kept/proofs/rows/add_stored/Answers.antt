use Rattle.std.proofs.Common.{map, sym, ap, ◌∙◌}
use Rattle.std.specs.List.{filter}
use Rattle.mentions.specs.MarkViews.{body_view, field_mark_view}
use Rattle.tracked.specs.LocalViews.{seen_view}
use Rattle.kept.specs.KeptViews.{field_keeps, is_there}
use Rattle.kept_forms.proofs.AddedParts.{ok_same, adds_none_of}
use Rattle.kept.proofs.Gatherings.{nothing_stored}
use Rattle.kept.proofs.rows.add_stored.Goals as goal

pub returns-in_ok-keep-in-WritesField : goal.returns-in_ok-keep-in-WritesField
returns-in_ok-keep-in-WritesField c =
    let seen = seen_view c.args.around.seen.now in
    let bodies = map body_view c.args.around.bodies.now in
    ok_same c.add_keep.result _ _ _ _
    (c.in_ok-keep-in-WritesField.ensures
    ∙ ap (λ m. filter (is_there seen bodies) (field_keeps seen bodies (field_mark_view m))) (sym c.in-WritesField.is))
    c.add_keep.ensures

pub returns-in_default : goal.returns-in_default
returns-in_default c =
    adds_none_of _ _
    (nothing_stored (seen_view c.args.around.seen.now) (map body_view c.args.around.bodies.now) c.args.field
    c.in_default.not-WritesField)
