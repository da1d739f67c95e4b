use Rattle.std.proofs.Common.{◌++◌, ◌+◌, ℕ, drop, get_or, map, reverse, sym, ap, ◌∙◌}
use Rattle.std.proofs.lemmas.List.{append-nil, get_or_default}
use Rattle.bodies.specs.NodeEvents.{events_graph}
use Rattle.reasons.specs.WordViews.{branch_view}
use Rattle.tree.proofs.Depths.{drop_item, drop_past}
use Rattle.way_notes.proofs.BackwardNotes.{goes_back, is_bound, map_back}
use Rattle.way_notes.specs.Notes.{notes_of_way, notes_to}
use Rattle.way_notes.specs.NoteViews.{note_view, told_view}
use Rattle.way_notes.proofs.notes.notes_of.Goals as goal

pub loop-node-init : goal.loop-node-init
loop-node-init c =
    let graph = events_graph c.args.graph.now in
    let bs = map branch_view c.args.branches.now in
    let told = told_view c.args.told in
    let last = c.in-Some.last.now in
    let before = c.in-Some.before.now in
    ap (notes_of_way graph bs told) c.in-Some.ensures.cases.0
    ∙ sym (append-nil (notes_to graph bs told last before))
    ∙ ap (λ l. notes_to graph bs told last before ++ reverse (map note_view l)) (sym c.new-notes.ensures.items)

pub loop-node-preserved : goal.loop-node-preserved
loop-node-preserved c =
    let graph = events_graph c.args.graph.now in
    let bs = map branch_view c.args.branches.now in
    let told = told_view c.args.told in
    let before = c.in-Some.before.now in
    let i = c.loop-node.node-index in
    let next = c.loop-node.next in
    let found = map note_view c.loop-node.notes.items in
    let n : ℕ = get_or before i 0 in
    let items = drop_item before i n c.loop-node-test.true (get_or_default before i 0 n c.loop-node-test.true) in
    goes_back graph bs told (notes_of_way graph bs told c.args.nodes.now) found (map note_view c.add_node.new.notes.items)
    next n (drop (i + 1) before)
    (c.loop-node.invariant ∙ ap (λ l. notes_to graph bs told next l ++ reverse found) items)
    c.in_ok-add_node.ensures (sym c.if-binds.ensures)

pub returns-then-binds : goal.returns-then-binds
returns-then-binds c =
    let graph = events_graph c.args.graph.now in
    let bs = map branch_view c.args.branches.now in
    let told = told_view c.args.told in
    let before = c.in-Some.before.now in
    let i = c.loop-node.node-index in
    let next = c.loop-node.next in
    let found = map note_view c.loop-node.notes.items in
    let n : ℕ = get_or before i 0 in
    let items = drop_item before i n c.loop-node-test.true (get_or_default before i 0 n c.loop-node-test.true) in
    ap (map note_view) c.reversed.ensures
    ∙ map_back note_view c.add_node.new.notes.items
    ∙ sym (is_bound graph bs told (notes_of_way graph bs told c.args.nodes.now) found
    (map note_view c.add_node.new.notes.items) next n (drop (i + 1) before)
    (c.loop-node.invariant ∙ ap (λ l. notes_to graph bs told next l ++ reverse found) items)
    c.in_ok-add_node.ensures (sym c.if-binds.ensures))

pub returns : goal.returns
returns c =
    let graph = events_graph c.args.graph.now in
    let bs = map branch_view c.args.branches.now in
    let told = told_view c.args.told in
    let before = c.in-Some.before.now in
    let next = c.loop-node.next in
    let found = map note_view c.loop-node.notes.items in
    ap (map note_view) c.reversed-2.ensures
    ∙ map_back note_view c.loop-node.notes.items
    ∙ sym (c.loop-node.invariant
    ∙ ap (λ l. notes_to graph bs told next l ++ reverse found) (drop_past before c.loop-node.node-index c.loop-node-test.false))
