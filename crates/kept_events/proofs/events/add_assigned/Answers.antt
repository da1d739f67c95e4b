use Rattle.std.proofs.Common.{map, option_map, sym, ap}
use Rattle.facts.proofs.FactParts.{on_ok}
use Rattle.mentions.specs.MarkViews.{assigned_view, body_view, field_left_view}
use Rattle.tracked.specs.LocalViews.{seen_view}
use Rattle.meaning.specs.Mentions.{of_fields, writes_field}
use Rattle.meaning.specs.Kept.{field_events}
use Rattle.kept_forms.proofs.AddedParts.{adds_same, adds_none_of}
use Rattle.kept_events.proofs.events.add_assigned.Goals as goal

pub returns-in-Some : goal.returns-in-Some
returns-in-Some c =
    on_ok c.add_written.result
    (λ added site. adds_same _ _ _ _
    (ap (λ a. field_events (seen_view c.args.here.around.seen.now) (map body_view c.args.here.around.bodies.now)
    (of_fields site (writes_field (field_left_view c.args.left) (option_map assigned_view a)))
    (writes_field (field_left_view c.args.left) (option_map assigned_view a))) (sym c.in-Some.is)) (added site))
    c.add_written.ensures

pub returns-in-None : goal.returns-in-None
returns-in-None c = λ site.
    adds_none_of _ _
    (ap (λ a. field_events (seen_view c.args.here.around.seen.now) (map body_view c.args.here.around.bodies.now)
    (of_fields site (writes_field (field_left_view c.args.left) (option_map assigned_view a)))
    (writes_field (field_left_view c.args.left) (option_map assigned_view a))) (sym c.in-None.is))
