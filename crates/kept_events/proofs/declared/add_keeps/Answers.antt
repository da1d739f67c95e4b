use Rattle.std.proofs.Common.{map, ap, ◌∙◌}
use Rattle.mentions.specs.MarkViews.{body_view}
use Rattle.tracked.specs.LocalViews.{seen_view}
use Rattle.kept.specs.KeptViews.{keep_view}
use Rattle.kept_forms.proofs.AddedParts.{ok_same}
use Rattle.kept_events.specs.KeptEventViews.{kept_events}
use Rattle.kept_events.proofs.KeptParts.{all_kept}
use Rattle.kept_events.proofs.declared.add_keeps.Goals as goal

pub returns : goal.returns
returns c =
    ok_same c.add_all_kept.result _ _ _ _
    (ap (kept_events (seen_view c.args.here.around.seen.now) (map body_view c.args.here.around.bodies.now))
    (ap (map keep_view) c.deref.ensures.value ∙ c.in_ok-keeps.ensures)
    ∙ all_kept (seen_view c.args.here.around.seen.now) (map body_view c.args.here.around.bodies.now) _)
    c.add_all_kept.ensures
