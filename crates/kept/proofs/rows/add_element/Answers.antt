use Rattle.std.proofs.Common.{map, ap, ◌∙◌}
use Rattle.std.specs.List.{filter}
use Rattle.mentions.specs.MarkViews.{body_view}
use Rattle.tracked.specs.LocalViews.{seen_view}
use Rattle.meaning.specs.Kept.{kept_in}
use Rattle.kept.specs.KeptViews.{is_there}
use Rattle.kept_forms.specs.FormViews.{element_view}
use Rattle.kept_forms.proofs.AddedParts.{ok_same}
use Rattle.kept.proofs.Gatherings.{carried_kept}
use Rattle.kept.proofs.rows.add_element.Goals as goal

pub returns : goal.returns
returns c =
    let seen = seen_view c.args.around.seen.now in
    let bodies = map body_view c.args.around.bodies.now in
    let element = element_view c.args.element.now in
    ok_same c.add_keep.result _ _ _ _
    (c.in_ok-keep.ensures
    ∙ ap (filter (is_there seen bodies))
    (c.kept_in.ensures ∙ ap (λ v. kept_in v c.args.object element.field) c.carried-variable.ensures
    ∙ carried_kept seen bodies c.args.object element))
    c.add_keep.ensures
