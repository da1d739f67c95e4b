use Rattle.std.proofs.Common.{map, sym, ap}
use Rattle.facts.proofs.FactParts.{on_ok}
use Rattle.mentions.specs.MarkViews.{body_view, field_mark_view}
use Rattle.tracked.specs.LocalViews.{seen_view}
use Rattle.meaning.specs.Mentions.{of_fields}
use Rattle.meaning.specs.Kept.{field_events}
use Rattle.kept_forms.proofs.AddedParts.{adds_same, adds_none_of}
use Rattle.kept_events.proofs.events.add_field.Goals as goal

pub returns-in-CallsField : goal.returns-in-CallsField
returns-in-CallsField c = λ site.
    adds_none_of _ _
    (ap (λ m. field_events (seen_view c.args.here.around.seen.now) (map body_view c.args.here.around.bodies.now)
    (of_fields site (field_mark_view m)) (field_mark_view m)) (sym c.in-CallsField.is))

pub returns-in-WritesField : goal.returns-in-WritesField
returns-in-WritesField c =
    on_ok c.add_assigned.result
    (λ added site. adds_same _ _ _ _
    (ap (λ m. field_events (seen_view c.args.here.around.seen.now) (map body_view c.args.here.around.bodies.now)
    (of_fields site (field_mark_view m)) (field_mark_view m)) (sym c.in-WritesField.is)) (added site))
    c.add_assigned.ensures

pub returns-in-HandsOver : goal.returns-in-HandsOver
returns-in-HandsOver c =
    on_ok c.add_taken.result
    (λ added site. adds_same _ _ _ _
    (ap (λ m. field_events (seen_view c.args.here.around.seen.now) (map body_view c.args.here.around.bodies.now)
    (of_fields site (field_mark_view m)) (field_mark_view m)) (sym c.in-HandsOver.is)) (added site))
    c.add_taken.ensures

pub returns-in-HandsLiteral : goal.returns-in-HandsLiteral
returns-in-HandsLiteral c =
    on_ok c.add_taken_literal.result
    (λ added site. adds_same _ _ _ _
    (ap (λ m. field_events (seen_view c.args.here.around.seen.now) (map body_view c.args.here.around.bodies.now)
    (of_fields site (field_mark_view m)) (field_mark_view m)) (sym c.in-HandsLiteral.is)) (added site))
    c.add_taken_literal.ensures

pub returns-in-Renews : goal.returns-in-Renews
returns-in-Renews c =
    on_ok c.add_renewal.result
    (λ added site. adds_same _ _ _ _
    (ap (λ m. field_events (seen_view c.args.here.around.seen.now) (map body_view c.args.here.around.bodies.now)
    (of_fields site (field_mark_view m)) (field_mark_view m)) (sym c.in-Renews.is)) added)
    c.add_renewal.ensures

pub returns-in-ImportsAll : goal.returns-in-ImportsAll
returns-in-ImportsAll c = λ site.
    adds_none_of _ _
    (ap (λ m. field_events (seen_view c.args.here.around.seen.now) (map body_view c.args.here.around.bodies.now)
    (of_fields site (field_mark_view m)) (field_mark_view m)) (sym c.in-ImportsAll.is))
