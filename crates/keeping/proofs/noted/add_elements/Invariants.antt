use Rattle.std.proofs.Common.{◌≡◌, ◌++◌, drop, map}
use Rattle.std.specs.Prelude.{flat_map}
use Rattle.kept_forms.specs.FormViews.{element_view}
use Rattle.mentions.specs.MarkViews.{body_view}
use Rattle.tracked.specs.LocalViews.{seen_view}
use Rattle.keeping.specs.Notes.{element_notes}
use Rattle.noted_fields.specs.NotedFields.{note_view}
use Rattle.keeping.proofs.noted.add_elements.Given as goal

-- what was added, with what is left, is the whole
abbrev pub invariant-loop-element : goal.invariant-loop-element
invariant-loop-element l =
    map note_view l.notes.items
    ++ flat_map (element_notes (seen_view l.seen) (map body_view l.bodies)) (map element_view (drop l.element-index l.elements))
    ≡ map note_view l.initial.notes.items
    ++ flat_map (element_notes (seen_view l.seen) (map body_view l.bodies)) (map element_view l.elements)
