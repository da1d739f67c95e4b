use Rattle.std.proofs.Common.{map, ap, ◌∙◌}
use Rattle.mentions.specs.MarkViews.{body_view}
use Rattle.tracked.specs.LocalViews.{seen_view}
use Rattle.meaning.specs.KeepingFields.{carried_fields, gift_elements}
use Rattle.kept_forms.specs.FormViews.{gift_view}
use Rattle.kept_forms.proofs.AddedParts.{ok_same}
use Rattle.kept_events.proofs.KeptParts.{all_carried}
use Rattle.kept_events.proofs.told_names.add_value.Goals as goal

pub returns : goal.returns
returns c =
    ok_same c.add_gifts.result _ _ _ _
    (all_carried (seen_view c.args.here.around.seen.now) (map body_view c.args.here.around.bodies.now)
    (map gift_view c.deref.result.now)
    ∙ ap (λ gs. carried_fields (seen_view c.args.here.around.seen.now) (map body_view c.args.here.around.bodies.now) (gift_elements gs))
    (ap (map gift_view) c.deref.ensures.value ∙ c.in_ok-given.ensures))
    c.add_gifts.ensures
