use Rattle.std.proofs.Common.{◌≡◌, ◌++◌, drop, map}
use Rattle.std.specs.Prelude.{flat_map}
use Rattle.mentions.specs.MarkViews.{body_view}
use Rattle.tracked.specs.LocalViews.{seen_view}
use Rattle.tree.specs.View.{expression_syntax}
use Rattle.keeping.specs.Notes.{given_notes}
use Rattle.noted_fields.specs.NotedFields.{note_view}
use Rattle.keeping.proofs.noted.add_items.Given as goal

-- what was added, with what is left, is the whole
abbrev pub invariant-loop-item : goal.invariant-loop-item
invariant-loop-item l =
    map note_view l.notes.items
    ++ flat_map (given_notes (seen_view l.seen) (map body_view l.bodies)) (map expression_syntax (drop l.item-index l.items))
    ≡ map note_view l.initial.notes.items
    ++ flat_map (given_notes (seen_view l.seen) (map body_view l.bodies)) (map expression_syntax l.items)
