use Rattle.std.proofs.Common.{◌≡◌, ◌++◌, drop, map, reverse}
use Rattle.bodies.specs.NodeEvents.{events_graph}
use Rattle.reasons.specs.WordViews.{branch_view}
use Rattle.way_notes.specs.Notes.{notes_of_way, notes_to}
use Rattle.way_notes.specs.NoteViews.{note_view, told_view}
use Rattle.way_notes.proofs.notes.notes_of.Given as goal

-- what was collected stands behind the notes of what is left
abbrev pub invariant-loop-node : goal.invariant-loop-node
invariant-loop-node l =
    notes_of_way (events_graph l.graph) (map branch_view l.branches) (told_view l.told) l.nodes
    ≡ notes_to (events_graph l.graph) (map branch_view l.branches) (told_view l.told) l.next (drop l.node-index l.before)
    ++ reverse (map note_view l.notes.items)
