use Rattle.std.proofs.Common.{sym, ap, ◌∙◌}
use Rattle.way_notes.proofs.NodesShown.{node_read, node_past}
use Rattle.way_notes.specs.Notes.{binds_there}
use Rattle.way_notes.specs.NoteViews.{told_view}
use Rattle.way_notes.proofs.notes.binds.Goals as goal

pub returns-in-Some : goal.returns-in-Some
returns-in-Some c =
    let at = c.in-Some.ensures.lookup in
    c.is_binding.ensures
    ∙ ap (binds_there (told_view c.args.told))
    (sym (node_read c.args.graph.now c.args.node c.deref.result.now c.deref.ensures.value c.in-Some.found.now at.3.0 at.1))

pub returns-in-None : goal.returns-in-None
returns-in-None c =
    ap (binds_there (told_view c.args.told))
    (sym (node_past c.args.graph.now c.args.node c.deref.result.now c.deref.ensures.value c.in-None.ensures.lookup.3))
