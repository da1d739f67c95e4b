use Rattle.std.proofs.Common.{◌++◌, ◌∷◌, List, map, sym, ap, ◌∙◌}
use Rattle.facts.proofs.FactParts.{on_ok}
use Rattle.mentions.specs.MarkViews.{assigned_view, body_view, field_left_view, field_mark_view}
use Rattle.std.specs.Prelude.{option_map}
use Rattle.tracked.specs.LocalViews.{seen_view}
use Rattle.keeping.specs.Notes.{one_note, written_note, field_notes}
use Rattle.noted_fields.specs.NotedFields.{Note, is_filled, note_view}
use Rattle.keeping.proofs.Keys.{then_noted}
use Rattle.keeping.proofs.noted.add_of_field.Goals as goal

pub returns-in_ok-push-in-WritesField : goal.returns-in_ok-push-in-WritesField
returns-in_ok-push-in-WritesField c =
    let seen = seen_view c.args.seen.now in
    let bodies = map body_view c.args.bodies.now in
    let notes : List Note = map note_view c.args.notes.now.items in
    let said : List Note = one_note (written_note seen bodies (field_left_view c.in-WritesField.left)
    (option_map assigned_view c.in-WritesField.assigned)) in
    on_ok c.add_note-in-WritesField.result
    (λ h. then_noted c.args.notes.now.items c.push.new.self.items _ _ _ c.in_ok-push-in-WritesField.ensures.items
    (h ∙ ap (λ n. map note_view c.push.new.self.items ++ one_note n) c.written_note.ensures)
    ∙ ap (λ name. notes ++ is_filled name ∷ said) c.as_str.ensures
    ∙ ap (λ m. notes ++ field_notes seen bodies (field_mark_view m)) (sym c.in-WritesField.is))
    c.add_note-in-WritesField.ensures
