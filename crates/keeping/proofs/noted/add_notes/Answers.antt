use Rattle.std.proofs.Common.{◌++◌, map, sym, ap, ◌∙◌, append_assoc}
use Rattle.std.specs.Prelude.{flat_map}
use Rattle.facts.proofs.FactParts.{on_ok}
use Rattle.facts.proofs.ListedItems.{listed-map}
use Rattle.kept_forms.specs.FormViews.{element_view}
use Rattle.mentions.specs.MarkViews.{body_view, mark_view, mention_view}
use Rattle.tracked.specs.LocalViews.{seen_view}
use Rattle.keeping.specs.Notes.{element_notes, given_notes, key_notes, notes_there}
use Rattle.noted_fields.specs.NotedFields.{note_view}
use Rattle.keeping.proofs.noted.add_notes.Goals as goal

pub returns-in_ok-elements-in-Mentions : goal.returns-in_ok-elements-in-Mentions
returns-in_ok-elements-in-Mentions c =
    let seen = seen_view c.args.seen.now in
    let bodies = map body_view c.args.bodies.now in
    let notes = map note_view c.args.notes.now.items in
    let keys = key_notes (mention_view c.in-Mentions.mention) in
    on_ok c.add_elements.result
    (λ h. h ∙ (λ i. c.in_ok-add_key-in-Mentions.ensures i ++ flat_map (element_notes seen bodies)
    ((ap (map element_view) c.deref.ensures.value ∙ c.in_ok-elements-in-Mentions.ensures) i))
    ∙ append_assoc notes keys _
    ∙ ap (λ m. notes ++ notes_there seen bodies (mark_view m)) (sym c.in-Mentions.is))
    c.add_elements.ensures

pub returns-in-Returns : goal.returns-in-Returns
returns-in-Returns c =
    let seen = seen_view c.args.seen.now in
    let bodies = map body_view c.args.bodies.now in
    on_ok c.add_items.result
    (λ h. h ∙ ap (λ es. map note_view c.args.notes.now.items ++ flat_map (given_notes seen bodies) es)
    (sym (listed-map c.in-Returns.items.now))
    ∙ ap (λ m. map note_view c.args.notes.now.items ++ notes_there seen bodies (mark_view m)) (sym c.in-Returns.is))
    c.add_items.ensures
