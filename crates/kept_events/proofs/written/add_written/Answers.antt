use Rattle.std.proofs.Common.{map}
use Rattle.facts.proofs.FactParts.{on_ok}
use Rattle.mentions.specs.MarkViews.{assigned_view, body_view, field_left_view}
use Rattle.tracked.specs.LocalViews.{seen_view}
use Rattle.kept_forms.proofs.AddedParts.{adds_same}
use Rattle.kept_events.proofs.KeptParts.{all_written}
use Rattle.kept_events.proofs.written.add_written.Goals as goal

pub returns : goal.returns
returns c =
    on_ok c.add_some_keep.result
    (λ added site. adds_same _ _ _ _
    (all_written (seen_view c.args.here.around.seen.now) (map body_view c.args.here.around.bodies.now)
    (field_left_view c.args.left) (assigned_view c.args.assigned) site _ c.in_ok-keep.ensures)
    added)
    c.add_some_keep.ensures
