use Rattle.std.proofs.Common.{map, option_map, ap, ◌∙◌}
use Rattle.mentions.specs.MarkViews.{assigned_view, body_view, field_left_view}
use Rattle.tracked.specs.LocalViews.{seen_view}
use Rattle.tracked_rows.specs.RowViews.{object_left_view}
use Rattle.kept.specs.KeptViews.{keep_view}
use Rattle.kept_forms.proofs.AddedParts.{ok_same}
use Rattle.kept_events.proofs.KeptParts.{kept_written, obtained_written}
use Rattle.kept_events.proofs.written.add_keep.Goals as goal

pub returns-in-Some : goal.returns-in-Some
returns-in-Some c =
    ok_same c.add_event.result _ _ _ _
    (c.obtained.ensures
    ∙ obtained_written (seen_view c.args.here.around.seen.now) (map body_view c.args.here.around.bodies.now)
    (field_left_view c.args.written.left) (assigned_view c.args.written.assigned) _ _ _ c.object_left.ensures
    (ap (option_map object_left_view) c.in-Some.is))
    c.add_event.ensures

pub returns-in-None : goal.returns-in-None
returns-in-None c =
    ok_same c.add_kept.result _ _ _ _
    (kept_written (seen_view c.args.here.around.seen.now) (map body_view c.args.here.around.bodies.now)
    (field_left_view c.args.written.left) (assigned_view c.args.written.assigned) (keep_view c.args.keep) _ c.object_left.ensures
    (ap (option_map object_left_view) c.in-None.is))
    c.add_kept.ensures
