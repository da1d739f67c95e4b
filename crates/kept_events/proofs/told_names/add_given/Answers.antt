use Rattle.std.proofs.Common.{map, sym, ap, subst}
use Rattle.facts.proofs.FactParts.{on_ok}
use Rattle.mentions.specs.declared.mark.FieldMark.{FieldMark as KeptField}
use Rattle.mentions.specs.MarkViews.{body_view, field_mark_view}
use Rattle.tracked.specs.LocalViews.{seen_view}
use Rattle.meaning.specs.Mentions.{of_fields}
use Rattle.meaning.specs.KeepingFields.{carried_fields, given_elements}
use Rattle.kept_forms.proofs.AddedParts.{adds_none_of}
use Rattle.kept_events.specs.KeptEventViews.{AddsNames}
use Rattle.kept_events.proofs.KeptParts.{no_field_given}
use Rattle.kept_events.proofs.told_names.add_given.Goals as goal

pub returns-in-HandsOver : goal.returns-in-HandsOver
returns-in-HandsOver c =
    let seen = seen_view c.args.here.around.seen.now in
    let bodies = map body_view c.args.here.around.bodies.now in
    on_ok c.add_taken.result
    (λ added site.
    subst (λ (m : KeptField). AddsNames c.args.names.now.items c.add_taken.new.names.items
    (carried_fields seen bodies (given_elements seen (of_fields site (field_mark_view m))))) (sym c.in-HandsOver.is)
    (added site))
    c.add_taken.ensures

pub returns-in_default : goal.returns-in_default
returns-in_default c = λ site.
    adds_none_of _ _
    (ap (carried_fields (seen_view c.args.here.around.seen.now) (map body_view c.args.here.around.bodies.now))
    (no_field_given (seen_view c.args.here.around.seen.now) site c.args.field c.in_default.not-HandsOver))
