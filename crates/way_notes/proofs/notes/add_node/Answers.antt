use Rattle.std.proofs.Common.{map, option_map}
use Rattle.std.proofs.lemmas.Result.{on_ok_weaker}
use Rattle.std.specs.Prelude.{slice_get}
use Rattle.bodies.specs.MemoryLists.{node_view}
use Rattle.bodies.specs.NodeEvents.{events_graph}
use Rattle.reasons.specs.WordViews.{branch_view}
use Rattle.way_notes.proofs.BackwardNotes.{no_node, no_next, both}
use Rattle.way_notes.proofs.NodesShown.{node_read, node_past}
use Rattle.way_notes.specs.NoteViews.{note_view, told_view}
use Rattle.way_notes.proofs.notes.add_node.Goals as goal

pub returns-in_default : goal.returns-in_default
returns-in_default c =
    let graph = c.args.graph.now in
    let node = c.args.node in
    no_node (events_graph graph) (map branch_view c.args.branches.now) (told_view c.args.told)
    (map note_view c.args.notes.now.items) node (slice_get (events_graph graph).nodes node)
    (slice_get (events_graph graph).nodes c.args.next)
    (node_past graph node c.deref.result.now c.deref.ensures.value c.in_default.ensures.lookup.3)

pub returns-in_default-get : goal.returns-in_default-get
returns-in_default-get c =
    let graph = c.args.graph.now in
    let node = c.args.node in
    let there = c.in-Some.there.now in
    let at = c.in-Some.ensures.lookup in
    no_next (events_graph graph) (map branch_view c.args.branches.now) (told_view c.args.told)
    (map note_view c.args.notes.now.items) node (slice_get (events_graph graph).nodes node)
    (slice_get (events_graph graph).nodes c.args.next) (node_view there)
    (node_read graph node c.deref.result.now c.deref.ensures.value there at.3.0 at.1)
    (node_past graph c.args.next c.deref-2.result.now c.deref-2.ensures.value c.in_default-get.ensures.lookup.3)

pub returns : goal.returns
returns c =
    let graph = c.args.graph.now in
    let node = c.args.node in
    let there = c.in-Some.there.now in
    let after = c.in-Some-get.after.now in
    let first = c.in-Some.ensures.lookup in
    let second = c.in-Some-get.ensures.lookup in
    on_ok_weaker c.add-2.result
    (both (events_graph graph) (map branch_view c.args.branches.now) (told_view c.args.told)
    (map note_view c.args.notes.now.items) node (slice_get (events_graph graph).nodes node)
    (slice_get (events_graph graph).nodes c.args.next) (node_view there) (node_view after)
    (map note_view c.add.new.notes.items) (map note_view c.add-2.new.notes.items)
    (option_map note_view c.branch_note-taken.result) (option_map note_view c.event_note.result)
    (node_read graph node c.deref.result.now c.deref.ensures.value there first.3.0 first.1)
    (node_read graph c.args.next c.deref-2.result.now c.deref-2.ensures.value after second.3.0 second.1)
    c.branch_note-taken.ensures c.event_note.ensures c.in_ok-add.ensures)
    c.add-2.ensures
