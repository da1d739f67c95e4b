use Rattle.std.proofs.Common.{map, sym, ap, ◌∙◌}
use Rattle.mentions.specs.MarkViews.{body_view, mention_view}
use Rattle.tracked.specs.LocalViews.{seen_view}
use Rattle.meaning.specs.Kept.{holder}
use Rattle.meaning.specs.Tracked.{declared_by}
use Rattle.kept.specs.KeptViews.{element_keeps}
use Rattle.kept_forms.specs.FormViews.{element_view}
use Rattle.kept_forms.proofs.AddedParts.{ok_same, adds_none_of}
use Rattle.kept.proofs.Gatherings.{none_carried}
use Rattle.kept.proofs.rows.add_held.Goals as goal

pub returns-then-not-some_carried : goal.returns-then-not-some_carried
returns-then-not-some_carried c =
    let seen = seen_view c.args.around.seen.now in
    adds_none_of _ _
    (none_carried seen (map body_view c.args.around.bodies.now)
    (holder seen (declared_by seen.known (mention_view c.args.mention))) (map element_view c.args.elements.now)
    (sym c.some_carried.ensures ∙ c.if-not-some_carried.true))

pub returns : goal.returns
returns c =
    let seen = seen_view c.args.around.seen.now in
    ok_same c.add_elements.result _ _ _ _
    (ap (λ x. element_keeps seen (map body_view c.args.around.bodies.now) x (map element_view c.args.elements.now))
    (c.in_ok-object.ensures ∙ ap (holder seen) c.declared_by-declared.ensures))
    c.add_elements.ensures
