use Rattle.std.proofs.Common.{map, sym, ap, ◌∙◌}
use Rattle.mentions.specs.MarkViews.{assigned_view, body_view, field_left_view}
use Rattle.tracked.specs.LocalViews.{seen_view}
use Rattle.kept.specs.KeptViews.{listed_keep}
use Rattle.kept_forms.proofs.AddedParts.{adds_none_of}
use Rattle.kept_events.specs.KeptEventViews.{written_all}
use Rattle.kept_events.proofs.KeptParts.{none_written}
use Rattle.kept_events.proofs.written.add_some_keep.Goals as goal

pub returns-in-None : goal.returns-in-None
returns-in-None c =
    adds_none_of _ _
    (none_written (seen_view c.args.here.around.seen.now) (map body_view c.args.here.around.bodies.now)
    (field_left_view c.args.written.left) (assigned_view c.args.written.assigned)
    ((seen_view c.args.here.around.seen.now).known.object_lefts (field_left_view c.args.written.left).field.span.start)
    ∙ ap (λ k. written_all (seen_view c.args.here.around.seen.now) (map body_view c.args.here.around.bodies.now)
    (field_left_view c.args.written.left) (assigned_view c.args.written.assigned)
    ((seen_view c.args.here.around.seen.now).known.object_lefts (field_left_view c.args.written.left).field.span.start)
    (listed_keep k)) (sym c.in-None.is))
