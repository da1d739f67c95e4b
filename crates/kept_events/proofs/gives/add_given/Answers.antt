use Rattle.std.proofs.Common.{map, flat_map, ap, ◌∙◌}
use Rattle.mentions.specs.MarkViews.{body_view}
use Rattle.tracked.specs.LocalViews.{seen_view}
use Rattle.meaning.specs.Kept.{gift_events}
use Rattle.kept_forms.specs.FormViews.{gift_view}
use Rattle.kept_forms.proofs.AddedParts.{ok_same}
use Rattle.kept_events.proofs.gives.add_given.Goals as goal

pub returns : goal.returns
returns c =
    ok_same c.add_all.result _ _ _ _
    (ap (flat_map (gift_events (seen_view c.args.here.around.seen.now) (map body_view c.args.here.around.bodies.now)))
    (ap (map gift_view) c.deref.ensures.value ∙ c.in_ok-given.ensures))
    c.add_all.ensures
