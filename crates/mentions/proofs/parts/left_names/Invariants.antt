use Rattle.std.proofs.Common.{◌≡◌, ◌++◌, drop, map}
use Rattle.meaning.specs.Mentions.{left_names}
use Rattle.mentions.specs.MarkViews.{row_view, marks_view}
use Rattle.tree.specs.View.{identifier_syntax}
use Rattle.mentions.proofs.parts.left_names.Given as goal

-- what was added with what the other names add is the whole
abbrev pub invariant-loop-index : goal.invariant-loop-index
invariant-loop-index l =
    marks_view l.marks.list.items ++ left_names (row_view l.row) l.site l.index (map identifier_syntax (drop l.index l.names))
    ≡ marks_view l.initial.marks.list.items ++ left_names (row_view l.row) l.site 0 (map identifier_syntax l.names)
