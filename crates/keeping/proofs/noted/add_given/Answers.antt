use Rattle.std.proofs.Common.{◌++◌, map, ap, ◌∙◌}
use Rattle.std.specs.Prelude.{flat_map}
use Rattle.facts.proofs.FactParts.{on_ok}
use Rattle.kept_forms.specs.FormViews.{gift_view}
use Rattle.mentions.specs.MarkViews.{body_view}
use Rattle.tracked.specs.LocalViews.{seen_view}
use Rattle.keeping.specs.Notes.{gift_notes}
use Rattle.noted_fields.specs.NotedFields.{note_view}
use Rattle.keeping.proofs.noted.add_given.Goals as goal

pub returns : goal.returns
returns c =
    let seen = seen_view c.args.seen.now in
    let bodies = map body_view c.args.bodies.now in
    on_ok c.add_gifts.result
    (λ h. h ∙ ap (λ gs. map note_view c.args.notes.now.items ++ flat_map (gift_notes seen bodies) gs)
    (ap (map gift_view) c.deref.ensures.value ∙ c.in_ok-given.ensures))
    c.add_gifts.ensures
