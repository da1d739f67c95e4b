use Rattle.std.proofs.Common.{sym, ap, ◌∙◌}
use Rattle.mentions.specs.MarkViews.{mark_view}
use Rattle.meaning.specs.KeepingFields.{obtained_fields}
use Rattle.tracked.specs.LocalViews.{seen_view}
use Rattle.kept_forms.proofs.AddedParts.{ok_same, adds_none_of}
use Rattle.kept_events.proofs.KeptParts.{field_names, no_obtained}
use Rattle.kept_events.proofs.told_names.add_obtained.Goals as goal

pub returns-in-OfFields : goal.returns-in-OfFields
returns-in-OfFields c =
    ok_same c.add_field.result _ _ _ _
    (field_names (seen_view c.args.here.around.seen.now) 0 c.in-OfFields.field.now
    ∙ ap (λ m. obtained_fields (seen_view c.args.here.around.seen.now) (mark_view m)) (sym c.in-OfFields.is))
    c.add_field.ensures

pub returns-in_default : goal.returns-in_default
returns-in_default c =
    adds_none_of _ _ (no_obtained (seen_view c.args.here.around.seen.now) c.args.mark.now c.in_default.not-OfFields)
