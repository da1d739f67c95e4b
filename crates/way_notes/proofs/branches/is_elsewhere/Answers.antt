use Rattle.std.proofs.Common.{sym, ap}
use Rattle.way_notes.proofs.NodesShown.{node_read, node_past}
use Rattle.way_notes.specs.Notes.{is_elsewhere}
use Rattle.way_notes.proofs.branches.is_elsewhere.Goals as goal

pub returns-in-Some : goal.returns-in-Some
returns-in-Some c =
    let at = c.in-Some.ensures.lookup in
    ap (is_elsewhere c.args.at)
    (sym (node_read c.args.graph.now c.args.node c.deref.result.now c.deref.ensures.value c.in-Some.found.now at.3.0 at.1))

pub returns-in-None : goal.returns-in-None
returns-in-None c =
    ap (is_elsewhere c.args.at)
    (sym (node_past c.args.graph.now c.args.node c.deref.result.now c.deref.ensures.value c.in-None.ensures.lookup.3))
