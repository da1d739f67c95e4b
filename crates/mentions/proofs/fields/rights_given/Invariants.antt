use Rattle.std.proofs.Common.{◌≡◌, ◌++◌, drop}
use Rattle.meaning.specs.Mentions.{is_one, rights_given}
use Rattle.mentions.specs.MarkViews.{marks_view}
use Rattle.tree.specs.View.{expressions_syntax}
use Rattle.mentions.proofs.fields.rights_given.Given as goal

-- what was added with what the other pairs add is the whole
abbrev pub invariant-loop-index : goal.invariant-loop-index
invariant-loop-index l =
    marks_view l.marks.list.items
    ++ rights_given l.site (is_one (expressions_syntax l.rights)) (expressions_syntax (drop l.index l.lefts))
    (expressions_syntax (drop l.index l.rights))
    ≡ marks_view l.initial.marks.list.items
    ++ rights_given l.site (is_one (expressions_syntax l.rights)) (expressions_syntax l.lefts)
    (expressions_syntax l.rights)
