use Rattle.std.proofs.Common.{map}
use Rattle.facts.proofs.FactParts.{on_ok}
use Rattle.mentions.specs.MarkViews.{body_view}
use Rattle.tracked.specs.LocalViews.{seen_view}
use Rattle.kept_forms.proofs.AddedParts.{adds_none_of}
use Rattle.kept_events.proofs.KeptParts.{fields_added, no_object}
use Rattle.kept_events.proofs.events.add_mark.Goals as goal

pub returns-in-OfFields : goal.returns-in-OfFields
returns-in-OfFields c =
    on_ok c.add_field.result
    (fields_added (seen_view c.args.here.around.seen.now) (map body_view c.args.here.around.bodies.now) c.args.mark.now _
    c.in-OfFields.field c.in-OfFields.is c.args.events.now.items c.add_field.new.events.items)
    c.add_field.ensures

pub returns-in_default : goal.returns-in_default
returns-in_default c =
    adds_none_of _ _
    (no_object (seen_view c.args.here.around.seen.now) (map body_view c.args.here.around.bodies.now) c.args.mark.now
    c.in_default.not-Mentions c.in_default.not-OfFields)
