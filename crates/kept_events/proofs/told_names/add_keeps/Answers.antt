use Rattle.std.proofs.Common.{map, ap, ◌∙◌}
use Rattle.tracked.specs.LocalViews.{seen_view}
use Rattle.kept.specs.KeptViews.{keep_view}
use Rattle.kept_forms.proofs.AddedParts.{ok_same}
use Rattle.kept_events.specs.KeptEventViews.{kept_names}
use Rattle.kept_events.proofs.KeptParts.{all_names}
use Rattle.kept_events.proofs.told_names.add_keeps.Goals as goal

pub returns : goal.returns
returns c =
    ok_same c.add_all_kept.result _ _ _ _
    (ap (kept_names (seen_view c.args.here.around.seen.now)) (ap (map keep_view) c.deref.ensures.value ∙ c.in_ok-keeps.ensures)
    ∙ all_names (seen_view c.args.here.around.seen.now) _)
    c.add_all_kept.ensures
