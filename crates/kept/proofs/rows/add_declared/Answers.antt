use Rattle.std.proofs.Common.{map, flat_map, ap, ◌∙◌}
use Rattle.std.specs.List.{filter}
use Rattle.mentions.specs.MarkViews.{body_view, mention_view}
use Rattle.tracked.specs.LocalViews.{seen_view}
use Rattle.meaning.specs.Kept.{holder, kept_element}
use Rattle.meaning.specs.Tracked.{declared_by}
use Rattle.kept.specs.KeptViews.{is_there}
use Rattle.kept_forms.specs.FormViews.{element_view}
use Rattle.kept_forms.proofs.AddedParts.{ok_same}
use Rattle.kept.proofs.Gatherings.{elements_keep}
use Rattle.kept.proofs.rows.add_declared.Goals as goal

pub returns : goal.returns
returns c =
    let seen = seen_view c.args.around.seen.now in
    let bodies = map body_view c.args.around.bodies.now in
    let object = holder seen (declared_by seen.known (mention_view c.args.mention)) in
    ok_same c.add_held.result _ _ _ _
    (elements_keep seen bodies object (map element_view c.deref.result.now)
    ∙ ap (λ es. filter (is_there seen bodies) (flat_map (kept_element seen bodies object) es))
    (ap (map element_view) c.deref.ensures.value ∙ c.in_ok-elements.ensures))
    c.add_held.ensures
