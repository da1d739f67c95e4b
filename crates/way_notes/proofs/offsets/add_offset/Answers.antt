use Rattle.std.proofs.Common.{◌++◌, ◌∙◌, sym, ap}
use Rattle.std.proofs.lemmas.List.{append-nil}
use Rattle.way_notes.proofs.NodesShown.{node_read, node_past}
use Rattle.way_notes.specs.Offsets.{offset_of}
use Rattle.way_notes.proofs.offsets.add_offset.Goals as goal

pub returns-in_default : goal.returns-in_default
returns-in_default c =
    let before = c.args.offsets.now.items in
    sym (append-nil before)
    ∙ ap (λ o. before ++ offset_of o)
    (sym (node_past c.args.graph.now c.args.node c.deref.result.now c.deref.ensures.value c.in_default.ensures.lookup.3))

pub returns : goal.returns
returns c =
    let before = c.args.offsets.now.items in
    let at = c.in-Some.ensures.lookup in
    c.in_ok-push.ensures.items
    ∙ ap (λ o. before ++ offset_of o)
    (sym (node_read c.args.graph.now c.args.node c.deref.result.now c.deref.ensures.value c.in-Some.found.now at.3.0 at.1))
