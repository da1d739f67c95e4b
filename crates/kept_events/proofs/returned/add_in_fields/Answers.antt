use Rattle.std.proofs.Common.{map, flat_map, ap, ◌∙◌}
use Rattle.mentions.specs.MarkViews.{body_view}
use Rattle.tracked.specs.LocalViews.{seen_view}
use Rattle.meaning.specs.Kept.{handed_gift}
use Rattle.kept_forms.specs.FormViews.{gift_view}
use Rattle.kept_forms.proofs.AddedParts.{ok_same}
use Rattle.kept_events.proofs.returned.add_in_fields.Goals as goal

pub returns : goal.returns
returns c =
    ok_same c.add_gifts.result _ _ _ _
    (ap (flat_map (handed_gift (seen_view c.args.here.around.seen.now) (map body_view c.args.here.around.bodies.now) c.args.position))
    (ap (map gift_view) c.deref.ensures.value ∙ c.in_ok-given.ensures))
    c.add_gifts.ensures
