use Rattle.std.proofs.Common.{◌≡◌, ◌++◌, drop}
use Rattle.meaning.specs.Mentions.{all_given_to}
use Rattle.mentions.specs.MarkViews.{marks_view, taker_view}
use Rattle.tree.specs.View.{expressions_syntax}
use Rattle.mentions.proofs.fields.all_given_to.Given as goal

-- what was added with what the other expressions add is the whole
abbrev pub invariant-loop-item : goal.invariant-loop-item
invariant-loop-item l =
    marks_view l.marks.list.items
    ++ all_given_to l.site (taker_view l.taker) (expressions_syntax (drop l.item-index l.list))
    ≡ marks_view l.initial.marks.list.items ++ all_given_to l.site (taker_view l.taker) (expressions_syntax l.list)
