use Rattle.std.proofs.Common.{map, ap}
use Rattle.mentions.specs.MarkViews.{body_view}
use Rattle.tracked.specs.LocalViews.{seen_view}
use Rattle.meaning.specs.Kept.{kept_there, renew_all}
use Rattle.kept_forms.proofs.AddedParts.{adds_same, ok_then}
use Rattle.kept_events.proofs.declared.add_declared.Goals as goal

pub returns : goal.returns
returns c =
    let seen = seen_view c.args.here.around.seen.now in
    let bodies = map body_view c.args.here.around.bodies.now in
    ok_then c.add_keeps.result _ _ _ _ _
    (adds_same _ _ _ _ (ap (λ x. renew_all (kept_there seen bodies x)) c.declared_at_name-object.ensures)
    c.in_ok-add_renewal.ensures)
    c.add_keeps.ensures
