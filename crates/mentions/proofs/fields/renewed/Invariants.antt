use Rattle.std.proofs.Common.{◌≡◌, ◌++◌, drop, map}
use Rattle.meaning.specs.Mentions.{renewed}
use Rattle.mentions.specs.MarkViews.{marks_view}
use Rattle.tree.specs.View.{identifier_syntax}
use Rattle.mentions.proofs.fields.renewed.Given as goal

-- what was added with what the other names add is the whole
abbrev pub invariant-loop-name : goal.invariant-loop-name
invariant-loop-name l =
    marks_view l.marks.list.items ++ renewed l.site (map identifier_syntax (drop l.name-index l.names))
    ≡ marks_view l.initial.marks.list.items ++ renewed l.site (map identifier_syntax l.names)
